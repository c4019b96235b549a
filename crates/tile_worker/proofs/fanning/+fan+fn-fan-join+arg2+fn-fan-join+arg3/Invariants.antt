use Rattle.std.proofs.Common.{◌+◌, ◌-◌, ◌*◌}
use Rattle.tile_worker.proofs.fanning.+fan+fn-fan-join+arg2+fn-fan-join+arg3.Given as goal

abbrev pub decreases-fan : goal.decreases-fan
decreases-fan g l = 2 * l.count

abbrev pub decreases-join+arg2 : goal.decreases-join+arg2
decreases-join+arg2 g l = 2 * l.half + 1

abbrev pub decreases-join+arg3 : goal.decreases-join+arg3
decreases-join+arg3 g l = 2 * (l.count - l.half) + 1
