use Rattle.std.proofs.Common.{◌≡◌, take}
use Rattle.spec_rollback.specs.TakenBack.{TakesThese}
use Rattle.spec_rollback.proofs.Undone.{among}
use Rattle.spec_rollback.proofs.releasing.release_marked.Given as goal

abbrev pub invariant-loop-place : goal.invariant-loop-place
invariant-loop-place g l = record {
  takes : TakesThese l.initial.state.scratch.marks (among (take l.place l.initial.state.scratch.members))
      l.initial.state.view l.state.view;
  scratch : l.state.scratch ≡ l.initial.state.scratch;
  effect : l.state.effect ≡ l.initial.state.effect;
  spare : l.state.spare ≡ l.initial.state.spare;
}
