-- What is spare for other tiles stays through several changes.
use Rattle.std.proofs.Common.{ℕ, ap, ◌∙◌}
use Rattle.spec_state.specs.StateValue.{Spare}
use Rattle.spec_commit.specs.Spilling.{KeepsOtherSpare}

pub kept_more : (tile : ℕ) (old mid new : Spare) → KeepsOtherSpare tile old mid → KeepsOtherSpare tile mid new
    → KeepsOtherSpare tile old new
kept_more tile old mid new first second = record {
  other_blocks = λ t other. second.other_blocks t other ∙ first.other_blocks t other;
  frame = second.frame ∙ ap (λ (r : Spare). record r { blocks = new.blocks }) first.frame;
}
