-- A task of version 1 neither reads nor writes a stack.
use Rattle.std.proofs.Common.{◌≡◌, ℕ, zero, suc, [], ◌%◌, ◌==◌, not, Bool, true, false, List, Option, Some, None, refl}
use Rattle.std.proofs.Common.{ap, nat_lt, if◌then◌else◌, sym, ◌∙◌}
use Rattle.std.specs.Option.{option_or}
use Rattle.guest_image.specs.ImageValue.{ImageValue}
use Rattle.guest_image.specs.Fetch.{fetched_word, text_loaded}
use Rattle.guest_image.specs.declared.memory_map.TheConstants.{DATA_START}
use Rattle.rv_table.specs.declared.instr.Effect.{Effect}
use Rattle.rv_table.specs.declared.instr.Effect.TheVariants as does
use Rattle.rv_table.specs.declared.instr.Instr.{Instr}
use Rattle.rv_table.specs.declared.instr.LoadWidth.{LoadWidth}
use Rattle.rv_table.specs.declared.instr.StoreWidth.{StoreWidth}
use Rattle.rv_table.specs.Exec.{acts_on}
use Rattle.rv_table.specs.Table.{instr_of_word}
use Rattle.rv_core.specs.declared.state.Core.{Core}
use Rattle.rv_core.specs.declared.state.Stop.TheVariants as stop
use Rattle.rv_core.specs.Next.{Next, Goes, Stops}
use Rattle.rv_core.specs.Memory.{is_within, load_width, store_width, stack_loaded}
use Rattle.rv_core.specs.Legs.{next_at, word_next, instr_next, effect_next, load_next, store_next, plain_loaded, traps}
use Rattle.rv_core.specs.Legs.{PlainInstruction, PlainInstructions}
use Rattle.rv_core.specs.LegValue.{LegValue, IsLegOfImage}
use Rattle.rv_core.specs.Stackless.{with_stack, next_with_stack, NoAddressReachesAStack, LegsKeepTheStack}

-- of either of two ways
either_way : (stack : List ℕ) (test : Bool) (a b one other : Next) → a ≡ next_with_stack stack one
    → b ≡ next_with_stack stack other
    → (if test then a else b) ≡ next_with_stack stack (if test then one else other)
either_way stack true a b one other here there = here
either_way stack false a b one other here there = there

-- a load takes nothing from a stack
loaded_alike : (image : ImageValue) (stack other : List ℕ) (addr n : ℕ) → image.version ≡ 1
    → plain_loaded image stack addr n ≡ plain_loaded image other addr n
loaded_alike image stack other addr n first =
    ap (λ version. option_or (text_loaded image.text addr n) (stack_loaded version stack addr n)) first
    ∙ ap (λ version. option_or (text_loaded image.text addr n) (stack_loaded version other addr n)) (sym first)

load_alike : (size : ℕ) (core : Core) (stack : List ℕ) (width : LoadWidth) (rd addr : ℕ) (raw : Option ℕ)
    → load_next size (with_stack stack core) width rd addr raw ≡ next_with_stack stack (load_next size core width rd addr raw)
load_alike size core stack width rd addr (Some raw) = refl
load_alike size core stack width rd addr None =
    either_way stack (is_within DATA_START size addr (load_width width)) (Stops (stop.Load width rd addr)) (traps core 5)
    (Stops (stop.Load width rd addr)) (traps core 5) refl refl

-- a store puts nothing into a stack
store_alike : (size : ℕ) (core : Core) (stack : List ℕ) (width : StoreWidth) (addr value : ℕ)
    → store_next 1 size (with_stack stack core) width addr value ≡ next_with_stack stack (store_next 1 size core width addr value)
store_alike size core stack width addr value =
    either_way stack (is_within DATA_START size addr (store_width width)) (Stops (stop.Store width addr value)) (traps core 7)
    (Stops (stop.Store width addr value)) (traps core 7) refl refl

effect_alike : (image : ImageValue) (size : ℕ) (core : Core) (stack : List ℕ) → image.version ≡ 1 → (effect : Effect)
    → effect_next image size (with_stack stack core) effect ≡ next_with_stack stack (effect_next image size core effect)
effect_alike image size core stack first (does.Plain pc rd value) = refl
effect_alike image size core stack first (does.Load width rd addr) =
    let n = load_width width in
    let from : List ℕ → Next = λ bytes. load_next size (with_stack stack core) width rd addr (plain_loaded image bytes addr n) in
    either_way stack (not (addr % n == 0)) (traps core 4) (from stack) (traps core 4) (load_next size core width rd addr (plain_loaded image core.stack addr n))
    refl
    (ap (load_next size (with_stack stack core) width rd addr) (loaded_alike image stack core.stack addr n first)
    ∙ load_alike size core stack width rd addr (plain_loaded image core.stack addr n))
effect_alike image size core stack first (does.Store width addr value) =
    let n = store_width width in
    either_way stack (not (addr % n == 0)) (traps core 6) (store_next image.version size (with_stack stack core) width addr value)
    (traps core 6) (store_next image.version size core width addr value) refl
    (ap (λ version. store_next version size (with_stack stack core) width addr value) first
    ∙ store_alike size core stack width addr value
    ∙ ap (λ version. next_with_stack stack (store_next version size core width addr value)) (sym first))
effect_alike image size core stack first does.Call = refl
effect_alike image size core stack first does.Break = refl
effect_alike image size core stack first does.Misaligned = refl

instr_alike : (image : ImageValue) (size : ℕ) (core : Core) (stack : List ℕ) → image.version ≡ 1
    → (instr : Option Instr)
    → instr_next image size (with_stack stack core) instr ≡ next_with_stack stack (instr_next image size core instr)
instr_alike image size core stack first None = refl
instr_alike image size core stack first (Some instr) =
    effect_alike image size core stack first (acts_on core.pc core.regs instr)

word_alike : (image : ImageValue) (size : ℕ) (core : Core) (stack : List ℕ) → image.version ≡ 1 → (word : Option ℕ)
    → word_next image size (with_stack stack core) word ≡ next_with_stack stack (word_next image size core word)
word_alike image size core stack first None = refl
word_alike image size core stack first (Some word) = instr_alike image size core stack first (instr_of_word word)

pub no_address_reaches : NoAddressReachesAStack
unfolding next_at
no_address_reaches image size budget core stack first =
    either_way stack (nat_lt core.used budget) (word_next image size (with_stack stack core) (fetched_word image.text core.pc)) (traps core 17)
    (word_next image size core (fetched_word image.text core.pc)) (traps core 17) (word_alike image size core stack first (fetched_word image.text core.pc)) refl

-- the stack of the core to which it goes on
abbrev stack_of : Next → List ℕ
stack_of (Goes core) = core.stack
stack_of (Stops found) = []

-- a plain instruction of version 1 leaves the stack as it was
plain_keeps : (image : ImageValue) (size budget : ℕ) (from to : Core) → image.version ≡ 1
    → PlainInstruction image size budget from to
    → to.stack ≡ from.stack
plain_keeps image size budget from to first step =
    ap stack_of (sym step ∙ no_address_reaches image size budget from from.stack first ∙ ap (next_with_stack from.stack) step)

-- so do any number of them
pub all_plain_keep : (image : ImageValue) (size budget n : ℕ) (from to : Core) → image.version ≡ 1
    → PlainInstructions image size budget n from to
    → to.stack ≡ from.stack
all_plain_keep image size budget zero from to first same = ap (λ (core : Core). core.stack) (sym same)
all_plain_keep image size budget (suc n) from to first (mid, front, last) =
    plain_keeps image size budget mid to first last ∙ all_plain_keep image size budget n from mid first front

pub legs_keep_the_stack : LegsKeepTheStack
legs_keep_the_stack image budget leg run first =
    all_plain_keep image image.data_size budget leg.steps leg.from leg.to first run.run
