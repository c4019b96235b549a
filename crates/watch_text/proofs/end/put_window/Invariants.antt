use Rattle.std.proofs.Common.{◌≡◌, ◌++◌}
use Rattle.std.specs.List.{range_with_len}
use Rattle.std.specs.String.{string_bytes}
use Rattle.watch_text.specs.Fields.{items_text}
use Rattle.watch_text.specs.Views.{window_text}
use Rattle.watch_text.proofs.end.put_window.Given as goal

abbrev pub invariant-loop-place : goal.invariant-loop-place
invariant-loop-place l =
    string_bytes l.line
    ≡ string_bytes l.initial.line ++ items_text (window_text l.image l.memory) (range_with_len 0 l.place)
