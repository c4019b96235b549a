use Rattle.std.proofs.Common.{arith}
use Rattle.place_policy.proofs.Least.{least_place_is}
use Rattle.place_policy.proofs.least_loaded.place_of_least.Goals as goal

pub returns-clause-place : goal.returns-clause-place
returns-clause-place c =
    least_place_is c.args.loads.now c.loop-tile.tile c.loop-tile.lowest (omega arith) c.loop-tile.invariant.0 c.loop-tile.invariant.1 c.loop-tile.invariant.2
