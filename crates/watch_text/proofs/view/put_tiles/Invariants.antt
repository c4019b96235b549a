use Rattle.std.proofs.Common.{◌≡◌, ◌++◌}
use Rattle.std.specs.List.{range_with_len}
use Rattle.std.specs.String.{string_bytes}
use Rattle.watch_text.specs.Fields.{items_text}
use Rattle.watch_text.specs.Views.{tile_text}
use Rattle.watch_text.proofs.view.put_tiles.Given as goal

abbrev pub invariant-loop-tile : goal.invariant-loop-tile
invariant-loop-tile g l =
    string_bytes l.line ≡ string_bytes l.initial.line ++ items_text (tile_text l.state.view) (range_with_len 0 l.tile)
