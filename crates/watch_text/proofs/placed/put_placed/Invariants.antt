use Rattle.std.proofs.Common.{◌≡◌, ◌++◌}
use Rattle.std.specs.List.{flat_map, range_with_len}
use Rattle.std.specs.String.{string_bytes}
use Rattle.watch_text.specs.Opening.{tile_lines}
use Rattle.watch_text.proofs.placed.put_placed.Given as goal

abbrev pub invariant-loop-tile : goal.invariant-loop-tile
invariant-loop-tile g l =
    string_bytes l.line ≡ string_bytes l.initial.line ++ flat_map (tile_lines l.state.view) (range_with_len 0 l.tile)
