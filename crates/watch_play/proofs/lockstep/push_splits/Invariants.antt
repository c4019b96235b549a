use Rattle.std.proofs.Common.{◌≡◌, ◌++◌, map}
use Rattle.std.specs.List.{range_with_len}
use Rattle.watch_counts.specs.step_script.declared.act.Act.TheVariants.{Split}
use Rattle.watch_play.proofs.lockstep.push_splits.Given as goal

abbrev pub invariant-loop-tile : goal.invariant-loop-tile
invariant-loop-tile l = l.acts.items ≡ l.fn.acts.items ++ map Split (range_with_len 0 l.tile)
