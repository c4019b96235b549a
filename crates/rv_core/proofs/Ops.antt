-- An operation that was made from a word does what the word's instruction does.
use Rattle.std.proofs.Common.{◌≡◌, ℕ, ◌+◌, ◌*◌, ◌-◌, ◌/◌, ◌%◌, ◌^◌, ◌<◌, ◌≤◌, ◌==◌, ◌&&◌, List, length, slice_get}
use Rattle.std.proofs.Common.{slice_index, Option, Some, None, Bool, true, false, nat_lt, if◌then◌else◌, zero, suc}
use Rattle.std.proofs.Common.{refl, sym, ◌∙◌, ap, subst, arith, rules, ◌++◌, ◌∷◌, [], IfSome, add-zero, get_or}
use Rattle.std.proofs.lemmas.List.{get_or_push, length_push}
use Rattle.std.proofs.Math.ListN.{get_or-append}
use Rattle.std.proofs.lemmas.Bool.{and_parts, eqb-true, leb-true, lt-ltb, ltb-false, ltb-true}
use Rattle.std.proofs.lemmas.Option.{slice_get_within, slice_get_past, slice_get-get_or, get_or_from_slice_get}
use Rattle.guest_image.specs.ImageValue.{ImageValue}
use Rattle.guest_image.specs.Fetch.{fetched_word, text_loaded}
use Rattle.guest_image.specs.declared.memory_map.TheConstants.{TEXT_START, DATA_START, STACK_START, STACK_BYTES}
use Rattle.rv_table.specs.declared.instr.Instr.{Instr}
use Rattle.rv_table.specs.declared.instr.Instr.TheVariants as instr
use Rattle.rv_table.specs.declared.instr.Effect.TheVariants as does
use Rattle.rv_table.specs.declared.instr.Cond.{Cond}
use Rattle.rv_table.specs.declared.instr.LoadWidth.{LoadWidth}
use Rattle.rv_table.specs.declared.instr.StoreWidth.{StoreWidth}
use Rattle.rv_table.specs.Exec.{plus, minus, word, holds, op_value, with_register, shift_signed, jump, loaded_value}
use Rattle.rv_table.specs.Regs.{set_word}
use Rattle.rv_table.specs.Table.{instr_of_word}
use Rattle.rv_core.specs.declared.state.Core.{Core}
use Rattle.rv_core.specs.declared.state.Stop.{Stop}
use Rattle.rv_core.specs.declared.state.Stop.TheVariants as stop
use Rattle.rv_core.specs.declared.op.Op.{Op}
use Rattle.rv_core.specs.Next.{Next, Goes, Stops}
use Rattle.rv_core.specs.Memory.{load_width, store_width, is_within, is_in_stack}
use Rattle.rv_core.specs.Legs.{next_at, instr_next, effect_next, core_after, after_store_of, PlainInstruction}
use Rattle.rv_core.specs.Legs.{PlainInstructions}
use Rattle.rv_core.specs.Ops.{Shape, Put, Imm, Two, Fence, Jump, Branch, Other, shape, word_shape, address, IsOpOf}
use Rattle.rv_core.specs.Ops.{AreOf, AreDecoded, Cursor}
use Rattle.rv_core.specs.Ops.{cursor, cursor_after_put, shape_next, access, shape_stop, found_stop, OpLeads, OpsLead}
use Rattle.rv_core.specs.Ops.{core_at}
use Rattle.rv_core.specs.Ops.{Point, point, stack_load, stack_store, stack_next, core_at_point}
use Rattle.undo_log.specs.Number.{number_at, after_write}
use Rattle.std.specs.Option.{option_or}
use Rattle.std.specs.Prelude.{nat_le, option_map}

-- the address of the word so many words on is this word's address and their offset in bytes
address_next : (index : ℕ) → address (plus index 1) ≡ plus (address index) 4
address_next index = omega arith

address_shift : (index offset : ℕ) → offset < 2 ^ 32 → offset % 4 ≡ 0
    → address (plus index (shift_signed offset 2)) ≡ plus (address index) offset
address_shift index offset small whole = grind arith

address_words : (index offset : ℕ) → offset % 4 ≡ 0
    → address (plus index (shift_signed (offset % 2 ^ 32) 2)) ≡ plus (address index) offset
address_words index offset whole =
    address_shift index (offset % 2 ^ 32) (omega arith) (omega arith) ∙ wrapped
  where
    wrapped : plus (address index) (offset % 2 ^ 32) ≡ plus (address index) offset
    wrapped = omega arith

pub address_back : (pc : ℕ) → pc < 2 ^ 32 → pc % 4 ≡ 0 → address (minus pc TEXT_START / 4) ≡ pc
address_back pc small whole = omega arith

halved : (x y : ℕ) → plus x y / 2 * 2 < 2 ^ 32
halved x y = omega arith

-- within the text an address has no overflow
address_within : (index : ℕ) → index < 65536 → address index ≡ TEXT_START + 4 * index
address_within index small = omega arith

fetched_at : (text : List ℕ) (index word : ℕ) → length text ≤ 65536 → slice_get text index ≡ Some word
    → fetched_word text (address index) ≡ Some word
fetched_at text index word short there =
    let inside : index < length text = slice_get_within text index word there in
    let plain : address index ≡ TEXT_START + 4 * index = address_within index (omega arith) in
    let whole : (TEXT_START + 4 * index) % 4 ≡ 0 = omega arith in
    let late : nat_lt (TEXT_START + 4 * index) TEXT_START ≡ false = grind arith in
    let back : (TEXT_START + 4 * index - TEXT_START) / 4 ≡ index = omega arith in
    rw (plain, whole, late, back) there

-- what goes to a place is what the code's place says
to_place : (core : Core) (to : Cursor) (index pc rd value : ℕ) → address index ≡ pc
    → Some (cursor index (set_word core.regs rd value)) ≡ Some to
    → Goes (core_after core pc rd value) ≡ Goes (core_at core to 1)
to_place core to index pc rd value there is =
    let Meets : Option Cursor → Type 0 = λ o. Goes (core_after core pc rd value) ≡ at o in
    subst Meets is (ap (λ pc. Goes (core_after core pc rd value)) (sym there))
  where
    at : Option Cursor → Next
    at None = Goes core
    at (Some place) = Goes (core_at core place 1)

-- on to the next word
onward : (core : Core) (to : Cursor) (index rd value : ℕ) → core.pc ≡ address index
    → Some (cursor_after_put (cursor index core.regs) rd value) ≡ Some to
    → Goes (core_after core (plus core.pc 4) rd value) ≡ Goes (core_at core to 1)
onward core to index rd value here is =
    to_place core to (plus index 1) (plus core.pc 4) rd value (address_next index ∙ ap (λ pc. plus pc 4) (sym here)) is

-- on to the next word behind what writes a register, which only goes on where that is x0
written_on : (core : Core) (to : Cursor) (index rd value : ℕ) (made : Shape) (dropped : Bool) → (rd == 0) ≡ dropped
    → core.pc ≡ address index
    → shape_next made (cursor index core.regs) ≡ Some (cursor_after_put (cursor index core.regs) rd value)
    → shape_next (if dropped then Fence else made) (cursor index core.regs) ≡ Some to
    → Goes (core_after core (plus core.pc 4) rd value) ≡ Goes (core_at core to 1)
written_on core to index rd value made true x0 here does is =
    let same : set_word core.regs rd value ≡ core.regs = rw x0 refl in
    onward core to index rd value here (ap (λ regs. Some (cursor (plus index 1) regs)) same ∙ is)
written_on core to index rd value made false x0 here does is = onward core to index rd value here (sym does ∙ is)

-- to an address that is a multiple of 4
jumps : (image : ImageValue) (size : ℕ) (core : Core) (to : Cursor) (index rd target : ℕ) → core.pc ≡ address index
    → target < 2 ^ 32
    → (aligned : Bool) → (target % 4 == 0) ≡ aligned
    → (if aligned then Some (cursor (minus target TEXT_START / 4) (set_word core.regs rd (plus (address index) 4))) else None) ≡ Some to
    → effect_next image size core (jump rd (plus core.pc 4) target) ≡ Goes (core_at core to 1)
jumps image size core to index rd target here small true aligned is =
    rw aligned (to_place core to (minus target TEXT_START / 4) target rd (plus core.pc 4) (address_back target small (eqb-true _ _ aligned))
    (ap (λ pc. Some (cursor (minus target TEXT_START / 4) (set_word core.regs rd (plus pc 4)))) here ∙ is))
jumps image size core to index rd target here small false aligned is = cc

-- a target is aligned where the offset is
aligned_by : (index offset : ℕ) → offset % 4 ≡ 0 → plus (address index) offset % 4 ≡ 0
aligned_by index offset whole = omega arith

is_zero : (n : ℕ) → n ≡ 0 → (n == 0) ≡ true
is_zero n same = rw same refl

-- a jump by an offset that is a multiple of 4
by_offset : (image : ImageValue) (size : ℕ) (core : Core) (to : Cursor) (index rd value offset : ℕ)
    → core.pc ≡ address index → (offset % 4 == 0) ≡ true
    → Some (cursor (plus index (shift_signed (offset % 2 ^ 32) 2)) (set_word core.regs rd value)) ≡ Some to
    → effect_next image size core (jump rd value (plus core.pc offset)) ≡ Goes (core_at core to 1)
by_offset image size core to index rd value offset here whole is =
    let there : address (plus index (shift_signed (offset % 2 ^ 32) 2)) ≡ plus core.pc offset = address_words index offset (eqb-true _ _ whole) ∙ ap (λ pc. plus pc offset) (sym here) in
    let aligned : (plus core.pc offset % 4 == 0) ≡ true = is_zero _ (ap (λ pc. plus pc offset % 4) here ∙ aligned_by index offset (eqb-true _ _ whole)) in
    rw aligned (to_place core to (plus index (shift_signed (offset % 2 ^ 32) 2)) (plus core.pc offset) rd value there is)

jal : (image : ImageValue) (size : ℕ) (core : Core) (to : Cursor) (index rd offset : ℕ) → core.pc ≡ address index
    → (whole : Bool) → (offset % 4 == 0) ≡ whole
    → shape_next (if whole then Jump rd (shift_signed (offset % 2 ^ 32) 2) else Other)
    (cursor index core.regs) ≡ Some to
    → effect_next image size core (jump rd (plus core.pc 4) (plus core.pc offset)) ≡ Goes (core_at core to 1)
jal image size core to index rd offset here true whole is =
    by_offset image size core to index rd (plus core.pc 4) offset here whole
    (ap (λ pc. Some (cursor (plus index (shift_signed (offset % 2 ^ 32) 2)) (set_word core.regs rd (plus pc 4)))) here ∙ is)
jal image size core to index rd offset here false whole is = cc

taken_or_not : (image : ImageValue) (size : ℕ) (core : Core) (to : Cursor) (index offset : ℕ) → core.pc ≡ address index
    → (offset % 4 == 0) ≡ true → (taken : Bool)
    → Some (cursor (plus index (if taken then shift_signed (offset % 2 ^ 32) 2 else 1)) core.regs) ≡ Some to
    → effect_next image size core (if taken then jump 0 0 (plus core.pc offset) else does.Plain (plus core.pc 4) 0 0) ≡ Goes (core_at core to 1)
taken_or_not image size core to index offset here whole true is =
    by_offset image size core to index 0 0 offset here whole is
taken_or_not image size core to index offset here whole false is = onward core to index 0 0 here is

branch : (image : ImageValue) (size : ℕ) (core : Core) (to : Cursor) (index : ℕ) (cond : Cond) (rs1 rs2 offset : ℕ)
    → core.pc ≡ address index → (whole : Bool) → (offset % 4 == 0) ≡ whole
    → shape_next (if whole then Branch cond rs1 rs2 (shift_signed (offset % 2 ^ 32) 2) else Other) (cursor index core.regs) ≡ Some to
    → effect_next image size core (if holds cond (slice_index core.regs rs1) (slice_index core.regs rs2) then jump 0 0 (plus core.pc offset) else does.Plain (plus core.pc 4) 0 0) ≡ Goes (core_at core to 1)
branch image size core to index cond rs1 rs2 offset here true whole is =
    taken_or_not image size core to index offset here whole (holds cond (slice_index core.regs rs1) (slice_index core.regs rs2)) is
branch image size core to index cond rs1 rs2 offset here false whole is = cc

-- where the operation of an instruction leads, the instruction leads
pub goes : (image : ImageValue) (size : ℕ) (core : Core) (to : Cursor) (index : ℕ) (found : Option Instr)
    → core.pc ≡ address index
    → shape_next (word_shape core.pc found) (cursor index core.regs) ≡ Some to
    → instr_next image size core found ≡ Goes (core_at core to 1)
goes image size core to index None here is = cc
goes image size core to index (Some (instr.Lui rd imm)) here is =
    written_on core to index rd imm (Put rd imm) (rd == 0) refl here refl is
goes image size core to index (Some (instr.Auipc rd imm)) here is =
    written_on core to index rd (plus core.pc imm) (Put rd (plus core.pc imm)) (rd == 0) refl here refl is
goes image size core to index (Some (instr.Jal rd imm)) here is =
    jal image size core to index rd (word imm) here (word imm % 4 == 0) refl is
goes image size core to index (Some (instr.Jalr rd rs1 imm)) here is =
    let target = plus (slice_index core.regs rs1) (word imm) / 2 * 2 in
    jumps image size core to index rd target here (halved (slice_index core.regs rs1) (word imm)) (target % 4 == 0) refl is
goes image size core to index (Some (instr.Branch cond rs1 rs2 imm)) here is =
    branch image size core to index cond rs1 rs2 (word imm) here (word imm % 4 == 0) refl is
goes image size core to index (Some (instr.Load width rd rs1 imm)) here is = cc
goes image size core to index (Some (instr.Store width rs1 rs2 imm)) here is = cc
goes image size core to index (Some (instr.OpImm op rd rs1 imm)) here is =
    written_on core to index rd (op_value (with_register op) (slice_index core.regs rs1) (word imm))
    (Imm (with_register op) rd rs1 (word imm)) (rd == 0) refl here refl is
goes image size core to index (Some (instr.Op op rd rs1 rs2)) here is =
    written_on core to index rd (op_value op (slice_index core.regs rs1) (slice_index core.regs rs2))
    (Two op rd rs1 rs2) (rd == 0) refl here refl is
goes image size core to index (Some instr.Fence) here is = onward core to index 0 0 here is
goes image size core to index (Some instr.Ecall) here is = cc
goes image size core to index (Some instr.Ebreak) here is = cc

-- the data lie behind the text
text_beyond : (text : List ℕ) (addr n : ℕ) → length text ≤ 65536 → DATA_START ≤ addr → text_loaded text addr n ≡ None
text_beyond text addr n short far =
    let late : nat_lt addr TEXT_START ≡ false = grind arith in
    let past : slice_get text ((addr - TEXT_START) / 4) ≡ None = slice_get_past text _ (omega arith) in
    rw (late, past) refl

-- below the stack nothing lies in it
not_in_stack : (version addr n : ℕ) → nat_lt addr STACK_START ≡ true → is_in_stack version addr n ≡ false
not_in_stack version addr n below =
    by_tests (version == 2) (nat_le STACK_START addr) (nat_le (addr + n) (STACK_START + STACK_BYTES)) before
  where
    before : nat_le STACK_START addr ≡ false
    before = let small : addr < STACK_START = ltb-true _ _ below in grind arith

    by_tests : (a b c : Bool) → b ≡ false → (a && (b && c)) ≡ false
    by_tests false b c is = refl
    by_tests true false c is = refl
    by_tests true true c is = cc

-- an access that stops passed all tests
accessed : (aligned below within : Bool) (one found : Stop)
    → (if aligned && (below && within) then Some one else None) ≡ Some found
    → (aligned ≡ true) × (below ≡ true) × (within ≡ true) × (one ≡ found)
accessed true true true one found is = (refl, refl, refl, search rules)
accessed true true false one found is = cc
accessed true false within one found is = cc
accessed false below within one found is = cc

low_of : (size addr n : ℕ) → is_within DATA_START size addr n ≡ true → DATA_START ≤ addr
low_of size addr n within = leb-true _ _ (and_parts _ _ within).0

load_stops : (image : ImageValue) (size : ℕ) (core : Core) (found : Stop) (width : LoadWidth) (rd addr : ℕ)
    → length image.text ≤ 65536
    → access size addr (load_width width) (stop.Load width rd addr) ≡ Some found
    → effect_next image size core (does.Load width rd addr) ≡ Stops found
load_stops image size core found width rd addr short is =
    let n = load_width width in
    let (aligned, below, within, same) = accessed (addr % n == 0) (nat_lt addr STACK_START) (is_within DATA_START size addr n) (stop.Load width rd addr) found is in
    let beyond = text_beyond image.text addr n short (low_of size addr n within) in
    let outside = not_in_stack image.version addr n below in
    rw (aligned, beyond, outside, within) (ap Stops same)

store_stops : (image : ImageValue) (size : ℕ) (core : Core) (found : Stop) (width : StoreWidth) (addr value : ℕ)
    → access size addr (store_width width) (stop.Store width addr value) ≡ Some found
    → effect_next image size core (does.Store width addr value) ≡ Stops found
store_stops image size core found width addr value is =
    let n = store_width width in
    let (aligned, below, within, same) = accessed (addr % n == 0) (nat_lt addr STACK_START) (is_within DATA_START size addr n) (stop.Store width addr value) found is in
    let outside = not_in_stack image.version addr n below in
    rw (aligned, outside, within) (ap Stops same)

-- an access of the stack passed both tests
reached : (aligned within : Bool) (one found : Point) → (if aligned && within then Some one else None) ≡ Some found
    → (aligned ≡ true) × (within ≡ true) × (one ≡ found)
reached true true one found is = (refl, refl, search rules)
reached true false one found is = cc
reached false within one found is = cc

high_of : (version addr n : ℕ) → is_in_stack version addr n ≡ true → DATA_START ≤ addr
high_of version addr n within =
    let high : STACK_START ≤ addr = leb-true _ _ (second (version == 2) (nat_le STACK_START addr) (nat_le (addr + n) (STACK_START + STACK_BYTES)) within) in
    omega (arith, high)
  where
    second : (a b c : Bool) → (a && (b && c)) ≡ true → b ≡ true
    second true true c is = refl
    second true false c is = cc
    second false b c is = cc

stack_loads : (image : ImageValue) (size : ℕ) (core : Core) (to : Point) (index : ℕ) (width : LoadWidth) (rd addr : ℕ)
    → length image.text ≤ 65536 → core.pc ≡ address index
    → stack_load image.version width rd addr (point index core.regs core.stack) ≡ Some to
    → effect_next image size core (does.Load width rd addr) ≡ Goes (core_at_point core to 1)
stack_loads image size core to index width rd addr short here is =
    let n = load_width width in
    let value = loaded_value width (number_at core.stack (addr - STACK_START) n) in
    let next : Cursor = cursor_after_put (cursor index core.regs) rd value in
    let one : Point = record { cursor = next; stack = core.stack } in
    let (aligned, within, same) = reached (addr % n == 0) (is_in_stack image.version addr n) one to is in
    let beyond = text_beyond image.text addr n short (high_of image.version addr n within) in
    let gone : Goes (core_after core (plus core.pc 4) rd value) ≡ Goes (core_at_point core to 1) = onward core next index rd value here refl ∙ ap (λ (t : Point). Goes (core_at_point core t 1)) same in
    rw (aligned, beyond, within) gone

stack_stores : (image : ImageValue) (size : ℕ) (core : Core) (to : Point) (index : ℕ) (width : StoreWidth) (addr value : ℕ)
    → core.pc ≡ address index
    → stack_store image.version width addr value (point index core.regs core.stack) ≡ Some to
    → effect_next image size core (does.Store width addr value) ≡ Goes (core_at_point core to 1)
stack_stores image size core to index width addr value here is =
    let n = store_width width in
    let stack = after_write core.stack (addr - STACK_START) n value in
    let one : Point = record { cursor = cursor (plus index 1) core.regs; stack = stack } in
    let (aligned, within, same) = reached (addr % n == 0) (is_in_stack image.version addr n) one to is in
    let pc : plus core.pc 4 ≡ address (plus index 1) = ap (λ pc. plus pc 4) here ∙ sym (address_next index) in
    let gone : Goes (after_store_of core width addr value) ≡ Goes (core_at_point core to 1) =
    ap (λ at. Goes (record core { pc = at; used = core.used + 1; stack = stack })) pc
    ∙ ap (λ (t : Point). Goes (core_at_point core t 1)) same in
    rw (aligned, within) gone

-- a jump or a branch touches no stack
still_jump : (version : ℕ) (from to : Point) (next : Next) (core : Core) (rd words : ℕ) (whole : Bool)
    → stack_next version (if whole then Jump rd words else Other) from ≡ Some to → next ≡ Goes core
still_jump version from to next core rd words true is = cc
still_jump version from to next core rd words false is = cc

still_branch : (version : ℕ) (from to : Point) (next : Next) (core : Core) (cond : Cond) (rs1 rs2 words : ℕ) (whole : Bool)
    → stack_next version (if whole then Branch cond rs1 rs2 words else Other) from ≡ Some to → next ≡ Goes core
still_branch version from to next core cond rs1 rs2 words true is = cc
still_branch version from to next core cond rs1 rs2 words false is = cc

-- nor does what writes a register
still_written : (version : ℕ) (from to : Point) (next : Next) (core : Core) (made : Shape) (dropped : Bool)
    → stack_next version made from ≡ None
    → stack_next version (if dropped then Fence else made) from ≡ Some to → next ≡ Goes core
still_written version from to next core made true none is = cc
still_written version from to next core made false none is = cc

-- where the operation of an instruction leads by the stack, the instruction leads
pub stack_goes : (image : ImageValue) (size : ℕ) (core : Core) (to : Point) (index : ℕ) (found : Option Instr)
    → length image.text ≤ 65536 → core.pc ≡ address index
    → stack_next image.version (word_shape core.pc found) (point index core.regs core.stack) ≡ Some to
    → instr_next image size core found ≡ Goes (core_at_point core to 1)
stack_goes image size core to index None short here is = cc
stack_goes image size core to index (Some (instr.Lui rd imm)) short here is =
    still_written image.version (point index core.regs core.stack) to _ _ (Put rd imm) (rd == 0) refl is
stack_goes image size core to index (Some (instr.Auipc rd imm)) short here is =
    still_written image.version (point index core.regs core.stack) to _ _ (Put rd (plus core.pc imm)) (rd == 0) refl is
stack_goes image size core to index (Some (instr.Jal rd imm)) short here is =
    still_jump image.version (point index core.regs core.stack) to _ _ rd _ (word imm % 4 == 0) is
stack_goes image size core to index (Some (instr.Jalr rd rs1 imm)) short here is = cc
stack_goes image size core to index (Some (instr.Branch cond rs1 rs2 imm)) short here is =
    still_branch image.version (point index core.regs core.stack) to _ _ cond rs1 rs2 _ (word imm % 4 == 0) is
stack_goes image size core to index (Some (instr.Load width rd rs1 imm)) short here is =
    stack_loads image size core to index width rd _ short here is
stack_goes image size core to index (Some (instr.Store width rs1 rs2 imm)) short here is =
    stack_stores image size core to index width _ _ here is
stack_goes image size core to index (Some (instr.OpImm op rd rs1 imm)) short here is =
    still_written image.version (point index core.regs core.stack) to _ _ (Imm (with_register op) rd rs1 (word imm))
    (rd == 0) refl is
stack_goes image size core to index (Some (instr.Op op rd rs1 rs2)) short here is =
    still_written image.version (point index core.regs core.stack) to _ _ (Two op rd rs1 rs2) (rd == 0) refl is
stack_goes image size core to index (Some instr.Fence) short here is = cc
stack_goes image size core to index (Some instr.Ecall) short here is = cc
stack_goes image size core to index (Some instr.Ebreak) short here is = cc

-- a jump or a branch is no stop
no_jump : (size : ℕ) (core : Core) (found : Stop) (next : Next) (rd words : ℕ) (whole : Bool)
    → shape_stop size (if whole then Jump rd words else Other) core.regs ≡ Some found → next ≡ Stops found
no_jump size core found next rd words true is = cc
no_jump size core found next rd words false is = cc

no_branch : (size : ℕ) (core : Core) (found : Stop) (next : Next) (cond : Cond) (rs1 rs2 words : ℕ) (whole : Bool)
    → shape_stop size (if whole then Branch cond rs1 rs2 words else Other) core.regs ≡ Some found → next ≡ Stops found
no_branch size core found next cond rs1 rs2 words true is = cc
no_branch size core found next cond rs1 rs2 words false is = cc

-- nor is a write of a register
no_write : (size : ℕ) (core : Core) (found : Stop) (next : Next) (made : Shape) (dropped : Bool)
    → shape_stop size made core.regs ≡ None
    → shape_stop size (if dropped then Fence else made) core.regs ≡ Some found → next ≡ Stops found
no_write size core found next made true none is = cc
no_write size core found next made false none is = cc

-- where the operation of an instruction stops, the instruction stops
pub stops : (image : ImageValue) (size : ℕ) (core : Core) (found : Stop) (instr : Option Instr)
    → length image.text ≤ 65536
    → shape_stop size (word_shape core.pc instr) core.regs ≡ Some found → instr_next image size core instr ≡ Stops found
stops image size core found None short is = cc
stops image size core found (Some (instr.Lui rd imm)) short is =
    no_write size core found _ (Put rd imm) (rd == 0) refl is
stops image size core found (Some (instr.Auipc rd imm)) short is =
    no_write size core found _ (Put rd (plus core.pc imm)) (rd == 0) refl is
stops image size core found (Some (instr.Jal rd imm)) short is = no_jump size core found _ rd _ (word imm % 4 == 0) is
stops image size core found (Some (instr.Jalr rd rs1 imm)) short is = cc
stops image size core found (Some (instr.Branch cond rs1 rs2 imm)) short is =
    no_branch size core found _ cond rs1 rs2 _ (word imm % 4 == 0) is
stops image size core found (Some (instr.Load width rd rs1 imm)) short is =
    load_stops image size core found width rd _ short is
stops image size core found (Some (instr.Store width rs1 rs2 imm)) short is =
    store_stops image size core found width _ _ is
stops image size core found (Some (instr.OpImm op rd rs1 imm)) short is =
    no_write size core found _ (Imm (with_register op) rd rs1 (word imm)) (rd == 0) refl is
stops image size core found (Some (instr.Op op rd rs1 rs2)) short is =
    no_write size core found _ (Two op rd rs1 rs2) (rd == 0) refl is
stops image size core found (Some instr.Fence) short is = cc
stops image size core found (Some instr.Ecall) short is = ap Stops (search rules)
stops image size core found (Some instr.Ebreak) short is = cc

-- within the budget, what comes of the word at the core
next_at-word : (image : ImageValue) (size budget : ℕ) (core : Core) (word : ℕ) → core.used < budget
    → fetched_word image.text core.pc ≡ Some word
    → next_at image size budget core ≡ instr_next image size core (instr_of_word word)
unfolding next_at
next_at-word image size budget core word used there =
    let below : nat_lt core.used budget ≡ true = lt-ltb _ _ used in
    rw (below, there) refl

-- at the end of the budget stands trap 17
pub next_at-used_up : (image : ImageValue) (size budget : ℕ) (core : Core) → core.used ≡ budget
    → next_at image size budget core ≡ Stops (stop.Trap 17 core.pc)
unfolding next_at
next_at-used_up image size budget core used =
    let over : nat_lt core.used budget ≡ false = grind arith in
    rw over refl

-- an operation of the text that touches registers and stack alone is a plain instruction
pub op_goes : (image : ImageValue) (size budget : ℕ) (core : Core) (ops : List Op) (index : ℕ) (to : Point)
    → AreDecoded image ops → core.pc ≡ address index → core.used < budget
    → OpLeads image.version ops (point index core.regs core.stack) to
    → PlainInstruction image size budget core (core_at_point core to 1)
op_goes image size budget core ops index to made here used (op, there, is) =
    by_registers (shape_next (shape op) (cursor index core.regs)) refl is
  where
    one : IsOpOf image.text index op
    one = made.of index op there

    from : Point
    from = point index core.regs core.stack

    stands : next_at image size budget core ≡ instr_next image size core (instr_of_word one.word)
    stands =
        next_at-word image size budget core one.word used (ap (fetched_word image.text) here ∙ fetched_at image.text index one.word made.short one.there)

    same : word_shape core.pc (instr_of_word one.word) ≡ shape op
    same = ap (λ pc. word_shape pc (instr_of_word one.word)) here ∙ sym one.same

    by_registers : (next : Option Cursor) → shape_next (shape op) (cursor index core.regs) ≡ next
        → option_or (option_map (λ place. record from { cursor = place }) next) (stack_next image.version (shape op) from) ≡ Some to
        → PlainInstruction image size budget core (core_at_point core to 1)
    by_registers (Some next) leads goes_on =
        let is_to : (record from { cursor = next }) ≡ to = cc in
        subst (λ (t : Point). PlainInstruction image size budget core (core_at_point core t 1)) is_to
        (stands ∙ goes image size core next index (instr_of_word one.word) here (ap (λ s. shape_next s (cursor index core.regs)) same ∙ leads))
    by_registers None leads goes_on =
        stands
        ∙ stack_goes image size core to index (instr_of_word one.word) made.short here (ap (λ s. stack_next image.version s from) same ∙ goes_on)

-- an operation of the text that stops is what stands there
pub op_stops : (image : ImageValue) (size budget : ℕ) (core : Core) (ops : List Op) (index : ℕ) (op : Op) (found : Stop)
    → AreDecoded image ops → core.pc ≡ address index → core.used < budget
    → slice_get ops index ≡ Some op → shape_stop size (shape op) core.regs ≡ Some found
    → next_at image size budget core ≡ Stops found
op_stops image size budget core ops index op found made here used there is =
    let one = made.of index op there in
    next_at-word image size budget core one.word used (ap (fetched_word image.text) here ∙ fetched_at image.text index one.word made.short one.there)
    ∙ stops image size core found (instr_of_word one.word) made.short
    (ap (λ s. shape_stop size s core.regs) (ap (λ pc. word_shape pc (instr_of_word one.word)) here ∙ sym one.same) ∙ is)

-- one operation more
pub OpsLead-once : (version : ℕ) (ops : List Op) (m n : ℕ) (from mid to : Point) → OpsLead version ops m from mid
    → OpLeads version ops mid to → m + 1 ≡ n → OpsLead version ops n from to
OpsLead-once version ops m n from mid to front last count =
    let next : suc m ≡ n = omega (arith, count) in
    subst (λ k. OpsLead version ops k from to) next (mid, front, last)

-- n operations are n plain instructions
pub ops_go : (image : ImageValue) (size budget : ℕ) (core : Core) (ops : List Op) (n index : ℕ) (to : Point)
    → AreDecoded image ops → core.pc ≡ address index → core.used + n ≤ budget
    → OpsLead image.version ops n (point index core.regs core.stack) to
    → PlainInstructions image size budget n core (core_at_point core to n)
ops_go image size budget core ops zero index to made here used same =
    let At : Point → Type 0 = λ to. core ≡ core_at_point core to 0 in
    subst At same (ap (λ pc. record core { pc = pc }) here ∙ ap (λ used. record core { pc = address index; used = used }) (sym (add-zero core.used)))
ops_go image size budget core ops (suc n) index to made here used (mid, front, last) = (
  core_at_point core mid n,
  ops_go image size budget core ops n index mid made here (omega arith) front,
  subst (λ used. PlainInstruction image size budget (core_at_point core mid n) (record core { pc = address to.cursor.index; regs = to.cursor.regs; used = used; stack = to.stack })) (omega arith)
      (op_goes image size budget (core_at_point core mid n) ops mid.cursor.index to made refl (omega arith) last),
)

-- what the operation found there stops at, if at anything, is what stands next
pub if_stops : (image : ImageValue) (size : ℕ) (core : Core) (ops : List Op) (index : ℕ) (at : Option Op) (found : Option Stop)
    → AreDecoded image ops → core.pc ≡ address index
    → slice_get ops index ≡ at → found ≡ found_stop size at core.regs
    → IfSome found (λ found. (budget : ℕ) → core.used < budget → next_at image size budget core ≡ Stops found)
if_stops image size core ops index at None made here there is = tt
if_stops image size core ops index None (Some found) made here there is = cc
if_stops image size core ops index (Some op) (Some found) made here there is =
    λ budget used. op_stops image size budget core ops index op found made here used there (sym is)

-- the operation of one word more
pub AreOf-push : (text : List ℕ) (ops : List Op) (op : Op) → AreOf text ops → IsOpOf text (length ops) op
    → AreOf text (ops ++ op ∷ [])
AreOf-push text ops op made one index other is = by_place (nat_lt index (length ops)) refl
  where
    inside : index < length (ops ++ op ∷ [])
    inside = slice_get_within (ops ++ op ∷ []) index other is

    by_place : (early : Bool) → nat_lt index (length ops) ≡ early → IsOpOf text index other
    by_place true early =
        let before : index < length ops = ltb-true _ _ early in
        let same : get_or ops index other ≡ other = sym (get_or-append ops (op ∷ []) other index before) ∙ get_or_from_slice_get (ops ++ op ∷ []) index other other is in
        made index other (slice_get-get_or ops index other before ∙ ap Some same)
    by_place false late =
        let after : length ops ≤ index = ltb-false _ _ late in
        let last : length ops ≡ index = omega (arith, length_push ops op, inside, after) in
        let same : op ≡ other = sym (get_or_push ops op other index last) ∙ get_or_from_slice_get (ops ++ op ∷ []) index other other is in
        subst (IsOpOf text index) same (subst (λ i. IsOpOf text i op) last one)

pub ruleset ops_facts = (next_at-used_up)
