use Rattle.std.proofs.Common.{◌≡◌, ◌++◌}
use Rattle.std.specs.List.{flat_map, range_with_len}
use Rattle.watch_play.specs.Courses.{tile_acts}
use Rattle.watch_play.proofs.lockstep.push_tiles.Given as goal

abbrev pub invariant-loop-tile : goal.invariant-loop-tile
invariant-loop-tile l =
    l.acts.items ≡ l.fn.acts.items ++ flat_map (tile_acts l.settings.cores) (range_with_len 0 l.tile)
