-- What stands next at a core, by the word at its pc.
use Rattle.std.proofs.Common.{◌≡◌, ℕ, ◌<◌, Some, refl, true, nat_lt}
use Rattle.std.proofs.lemmas.Bool.{lt-ltb}
use Rattle.guest_image.specs.ImageValue.{ImageValue}
use Rattle.rv_table.specs.declared.instr.Instr.{Instr}
use Rattle.rv_table.specs.declared.instr.Effect.{Effect}
use Rattle.rv_table.specs.Table.{instr_of_word}
use Rattle.rv_table.specs.Exec.{acts_on}
use Rattle.guest_image.specs.Fetch.{fetched_word}
use Rattle.rv_core.specs.declared.state.Core.{Core}
use Rattle.rv_core.specs.Legs.{next_at, effect_next}

-- within the budget and the text, what comes of the instruction's effect
pub next_at-effect : (image : ImageValue) (size budget : ℕ) (core : Core) (word : ℕ) (instr : Instr) (effect : Effect)
    → core.used < budget → fetched_word image.text core.pc ≡ Some word → instr_of_word word ≡ Some instr
    → acts_on core.pc core.regs instr ≡ effect
    → next_at image size budget core ≡ effect_next image size core effect
unfolding next_at
next_at-effect image size budget core word instr effect used there reads does =
    let below : nat_lt core.used budget ≡ true = lt-ltb _ _ used in
    rw (below, there, reads, does) refl
