use Rattle.std.proofs.Common.{◌≡◌, ◌≤◌, ◌+◌, slice_index_or}
use Rattle.spec_commit.specs.Spilling.{KeepsOtherSpare}
use Rattle.spec_commit.proofs.Moving.{HaveMoved}
use Rattle.spec_commit.proofs.coalescing.spill_all.Given as goal

abbrev pub invariant-loop-id : goal.invariant-loop-id
invariant-loop-id g l = record {
  moved : HaveMoved l.tile l.ids l.fn.state.view l.state.view l.id-index;
  spare : 8 ≤ slice_index_or l.state.spare.blocks l.tile 0 + l.id-index;
  others : KeepsOtherSpare l.tile l.fn.state.spare l.state.spare;
  effect : l.state.effect ≡ l.fn.state.effect;
}
