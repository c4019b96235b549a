use Rattle.std.proofs.Common.{◌≡◌, take}
use Rattle.spec_rollback.specs.Removed.{RemovesThese}
use Rattle.spec_rollback.proofs.Undone.{among}
use Rattle.spec_rollback.proofs.ending.remove_marked.Given as goal

abbrev pub invariant-loop-place : goal.invariant-loop-place
invariant-loop-place g l = record {
  removes : RemovesThese (among (take l.place l.initial.state.scratch.members)) l.initial.state.view l.state.view;
  scratch : l.state.scratch ≡ l.initial.state.scratch;
}
