use Rattle.std.proofs.Common.{◌≡◌, ◌++◌, take}
use Rattle.std.specs.List.{flat_map}
use Rattle.std.specs.String.{string_bytes}
use Rattle.watch_text.specs.Opening.{queued_line}
use Rattle.watch_text.proofs.placed.put_queue.Given as goal

abbrev pub invariant-loop-id : goal.invariant-loop-id
invariant-loop-id g l =
    string_bytes l.line
    ≡ string_bytes l.initial.line ++ flat_map (queued_line l.state.view l.tile) (take l.id-index l.ids)
