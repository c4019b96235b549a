use Rattle.std.proofs.Common.{◌≡◌, ◌++◌}
use Rattle.std.specs.List.{range_with_len}
use Rattle.std.specs.String.{string_bytes}
use Rattle.watch_text.specs.Fields.{items_text}
use Rattle.watch_text.specs.Views.{held_text}
use Rattle.watch_text.proofs.view.put_cores.Given as goal

abbrev pub invariant-loop-core : goal.invariant-loop-core
invariant-loop-core g l =
    string_bytes l.line
    ≡ string_bytes l.initial.line ++ items_text (held_text l.state.view l.tile) (range_with_len 0 l.core)
