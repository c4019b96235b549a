use Rattle.std.proofs.Common.{◌≡◌, ◌++◌}
use Rattle.watch_play.specs.Courses.{tile_acts}
use Rattle.watch_play.proofs.lockstep.push_tile.Given as goal

abbrev pub invariant-loop-core : goal.invariant-loop-core
invariant-loop-core l = l.acts.items ≡ l.fn.acts.items ++ tile_acts l.core l.tile
