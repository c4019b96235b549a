use Rattle.std.proofs.Common.{◌≡◌, ◌++◌, take}
use Rattle.std.specs.List.{flat_map}
use Rattle.std.specs.String.{string_bytes}
use Rattle.script_text.specs.spec_state.View.{block_at}
use Rattle.watch_text.specs.Opening.{spilled_line}
use Rattle.watch_text.proofs.placed.put_block.Given as goal

abbrev pub invariant-loop-place : goal.invariant-loop-place
invariant-loop-place g l =
    string_bytes l.line
    ≡ string_bytes l.initial.line ++ flat_map (spilled_line l.tile) (take l.place (block_at l.state.view l.tile))
