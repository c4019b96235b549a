use Rattle.std.proofs.Common.{◌≡◌, map, take}
use Rattle.spec_state.specs.Effects.{nothing}
use Rattle.spec_state.specs.Told.{told_at}
use Rattle.spec_rollback.proofs.telling.tell_marked.Given as goal

abbrev pub invariant-loop-place : goal.invariant-loop-place
invariant-loop-place g l = record {
  told : l.state.effect ≡ record nothing {
    back = map (told_at l.fn.state.view l.fn.state.scratch.marks) (take l.place l.fn.state.scratch.members);
  };
  view : l.state.view ≡ l.fn.state.view;
  scratch : l.state.scratch ≡ l.fn.state.scratch;
  spare : l.state.spare ≡ l.fn.state.spare;
}
