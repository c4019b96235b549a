use Rattle.std.proofs.Common.{◌≡◌, map, take}
use Rattle.spec_state.specs.Told.{told_spilled}
use Rattle.spec_commit.proofs.telling.tell_spilled.Given as goal

abbrev pub invariant-loop-id : goal.invariant-loop-id
invariant-loop-id g l = record {
  told : l.state.effect ≡ record l.fn.state.effect {
    spilled = map (told_spilled l.fn.state.view) (take l.id-index l.ids);
  };
  view : l.state.view ≡ l.fn.state.view;
  spare : l.state.spare ≡ l.fn.state.spare;
}
