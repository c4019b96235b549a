-- Each plain instruction is counted and within the budget, and an access that stops a run lies inside the data.
use Rattle.std.proofs.Common.{◌≡◌, ◌≢◌, ℕ, ◌+◌, ◌<◌, ◌≤◌, ◌%◌, ◌==◌, not, Option, Some, None, Bool, true, false, nat_lt}
use Rattle.std.proofs.Common.{if◌then◌else◌, zero, suc, refl, subst, arith, add-zero, add-suc}
use Rattle.std.proofs.lemmas.Bool.{ltb-true, leb-true, eqb-true, and_parts}
use Rattle.guest_image.specs.ImageValue.{ImageValue}
use Rattle.rv_table.specs.declared.instr.Instr.{Instr}
use Rattle.rv_table.specs.declared.instr.Effect.{Effect}
use Rattle.rv_table.specs.declared.instr.Effect.TheVariants as does
use Rattle.rv_table.specs.declared.instr.LoadWidth.{LoadWidth}
use Rattle.rv_table.specs.declared.instr.StoreWidth.{StoreWidth}
use Rattle.rv_table.specs.Table.{instr_of_word}
use Rattle.rv_table.specs.Exec.{acts_on}
use Rattle.guest_image.specs.Fetch.{fetched_word}
use Rattle.rv_core.specs.declared.state.Core.{Core}
use Rattle.rv_core.specs.declared.state.Stop.{Stop}
use Rattle.rv_core.specs.declared.state.Stop.TheVariants as stop
use Rattle.rv_core.specs.Next.{Next, Goes, Stops}
use Rattle.guest_image.specs.declared.memory_map.TheConstants.{DATA_START}
use Rattle.rv_core.specs.Memory.{load_width, store_width, is_within, is_in_stack}
use Rattle.rv_core.specs.Legs.{next_at, word_next, instr_next, effect_next, load_next, store_next, after_store_of}
use Rattle.rv_core.specs.Legs.{plain_loaded, traps, PlainInstruction, PlainInstructions, StopIsInData}

-- what stands next is counted where it goes on; where it stops it is no quantum, and an access lies inside the data
abbrev Keeps : ℕ → Core → Next → Type 0
Keeps size core (Goes to) = to.used ≡ core.used + 1
Keeps size core (Stops found) = StopIsInData size found × (found ≢ stop.Quantum)

-- a choice keeps what both sides keep
either : (size : ℕ) (core : Core) (test : Bool) (one other : Next) → (test ≡ true → Keeps size core one)
    → (test ≡ false → Keeps size core other) → Keeps size core (if test then one else other)
either size core true one other chosen otherwise = chosen refl
either size core false one other chosen otherwise = otherwise refl

trap_keeps : (size : ℕ) (core : Core) (cause : ℕ) → Keeps size core (traps core cause)
trap_keeps size core cause = (tt, λ e. cc)

true_from_not : (b : Bool) → not b ≡ false → b ≡ true
true_from_not true h = refl
true_from_not false h = cc

-- an access that passes both tests of the code lies in the data
inside : (size addr n : ℕ) → not (addr % n == 0) ≡ false → is_within DATA_START size addr n ≡ true
    → (DATA_START ≤ addr) × (addr + n ≤ DATA_START + size) × (addr % n ≡ 0)
inside size addr n aligned within =
    let (low, high) = and_parts _ _ within in
    (leb-true _ _ low, leb-true _ _ high, eqb-true _ _ (true_from_not _ aligned))

load_keeps : (size : ℕ) (core : Core) (width : LoadWidth) (rd addr : ℕ) (raw : Option ℕ)
    → not (addr % load_width width == 0) ≡ false → Keeps size core (load_next size core width rd addr raw)
load_keeps size core width rd addr (Some raw) aligned = refl
load_keeps size core width rd addr None aligned =
    either size core (is_within DATA_START size addr (load_width width)) (Stops (stop.Load width rd addr)) (traps core 5)
    (λ within. (inside size addr (load_width width) aligned within, λ e. cc))
    (λ _. trap_keeps size core 5)

store_keeps : (version size : ℕ) (core : Core) (width : StoreWidth) (addr value : ℕ)
    → not (addr % store_width width == 0) ≡ false
    → Keeps size core (store_next version size core width addr value)
store_keeps version size core width addr value aligned =
    either size core (is_in_stack version addr (store_width width)) (Goes (after_store_of core width addr value)) _ (λ _. refl)
    (λ _. either size core (is_within DATA_START size addr (store_width width)) (Stops (stop.Store width addr value)) (traps core 7)
    (λ within. (inside size addr (store_width width) aligned within, λ e. cc))
    (λ _. trap_keeps size core 7))

effect_keeps : (image : ImageValue) (size : ℕ) (core : Core) (effect : Effect)
    → Keeps size core (effect_next image size core effect)
effect_keeps image size core (does.Plain pc rd value) = refl
effect_keeps image size core (does.Load width rd addr) =
    either size core (not (addr % load_width width == 0)) (traps core 4) (load_next size core width rd addr (plain_loaded image core.stack addr (load_width width)))
    (λ _. trap_keeps size core 4)
    (load_keeps size core width rd addr (plain_loaded image core.stack addr (load_width width)))
effect_keeps image size core (does.Store width addr value) =
    either size core (not (addr % store_width width == 0)) (traps core 6) _
    (λ _. trap_keeps size core 6)
    (store_keeps image.version size core width addr value)
effect_keeps image size core does.Call = (tt, λ e. cc)
effect_keeps image size core does.Break = trap_keeps size core 8
effect_keeps image size core does.Misaligned = trap_keeps size core 3

instr_keeps : (image : ImageValue) (size : ℕ) (core : Core) (instr : Option Instr)
    → Keeps size core (instr_next image size core instr)
instr_keeps image size core None = trap_keeps size core 2
instr_keeps image size core (Some instr) = effect_keeps image size core (acts_on core.pc core.regs instr)

word_keeps : (image : ImageValue) (size : ℕ) (core : Core) (word : Option ℕ)
    → Keeps size core (word_next image size core word)
word_keeps image size core None = trap_keeps size core 1
word_keeps image size core (Some word) = instr_keeps image size core (instr_of_word word)

next_keeps : (image : ImageValue) (size budget : ℕ) (core : Core) → Keeps size core (next_at image size budget core)
unfolding next_at
next_keeps image size budget core =
    either size core (nat_lt core.used budget) (word_next image size core (fetched_word image.text core.pc))
    (traps core 17)
    (λ _. word_keeps image size core (fetched_word image.text core.pc))
    (λ _. trap_keeps size core 17)

-- a load or a store that stands next is aligned and lies wholly in the data
pub next_at-inside : (image : ImageValue) (size budget : ℕ) (core : Core) (found : Stop)
    → next_at image size budget core ≡ Stops found → StopIsInData size found
next_at-inside image size budget core found stands =
    (subst (Keeps size core) stands (next_keeps image size budget core)).0

-- the end of a quantum is nothing that stands at a core
pub next_at-other : (image : ImageValue) (size budget : ℕ) (core : Core) (found : Stop)
    → next_at image size budget core ≡ Stops found → found ≢ stop.Quantum
next_at-other image size budget core found stands =
    (subst (Keeps size core) stands (next_keeps image size budget core)).1

-- a plain instruction is counted
pub PlainInstruction-counted : (image : ImageValue) (size budget : ℕ) (from to : Core)
    → PlainInstruction image size budget from to → to.used ≡ from.used + 1
PlainInstruction-counted image size budget from to step =
    subst (Keeps size from) step (next_keeps image size budget from)

goes_on : (test : Bool) (one : Next) (core to : Core) → (if test then one else traps core 17) ≡ Goes to → test ≡ true
goes_on true one core to h = refl
goes_on false one core to h = cc

-- a plain instruction finds the budget not used up
pub PlainInstruction-within : (image : ImageValue) (size budget : ℕ) (from to : Core)
    → PlainInstruction image size budget from to → from.used < budget
unfolding next_at
PlainInstruction-within image size budget from to step = ltb-true _ _ (goes_on (nat_lt from.used budget) _ from to step)

-- n plain instructions are counted
pub PlainInstructions-counted : (image : ImageValue) (size budget n : ℕ) (from to : Core)
    → PlainInstructions image size budget n from to → to.used ≡ from.used + n
PlainInstructions-counted image size budget zero from to same = rw same (omega arith)
PlainInstructions-counted image size budget (suc n) from to (mid, front, last) =
    let first = PlainInstructions-counted image size budget n from mid front in
    let one = PlainInstruction-counted image size budget mid to last in
    omega arith

-- n plain instructions stay within the budget
pub PlainInstructions-within : (image : ImageValue) (size budget n : ℕ) (from to : Core)
    → PlainInstructions image size budget n from to → from.used ≤ budget → to.used ≤ budget
PlainInstructions-within image size budget zero from to same used =
    let Within : Core → Type 0 = λ core. core.used ≤ budget in
    subst Within same used
PlainInstructions-within image size budget (suc n) from to (mid, front, last) used =
    let below = PlainInstruction-within image size budget mid to last in
    let one = PlainInstruction-counted image size budget mid to last in
    omega arith

-- n plain instructions after m ones are m + n plain instructions
pub PlainInstructions-append : (image : ImageValue) (size budget m n : ℕ) (from mid to : Core)
    → PlainInstructions image size budget m from mid → PlainInstructions image size budget n mid to
    → PlainInstructions image size budget (m + n) from to
PlainInstructions-append image size budget m zero from mid to front same =
    let Leads : Core → Type 0 = λ core. PlainInstructions image size budget m from core in
    rw add-zero (subst Leads same front)
PlainInstructions-append image size budget m (suc n) from mid to front (late, more, last) =
    rw add-suc (late, PlainInstructions-append image size budget m n from mid late front more, last)

pub ruleset plain_facts = (next_at-inside, next_at-other, PlainInstruction-counted, PlainInstruction-within)
