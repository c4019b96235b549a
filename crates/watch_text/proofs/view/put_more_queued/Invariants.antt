use Rattle.std.proofs.Common.{◌≡◌, ◌++◌, take}
use Rattle.std.specs.String.{string_bytes}
use Rattle.watch_text.specs.Fields.{more_items}
use Rattle.watch_text.specs.Views.{queued_text}
use Rattle.watch_text.proofs.view.put_more_queued.Given as goal

abbrev pub invariant-loop-id : goal.invariant-loop-id
invariant-loop-id g l =
    string_bytes l.line ≡ string_bytes l.initial.line ++ more_items (queued_text l.state.view) (take l.id-index l.ids)
