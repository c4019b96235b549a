-- What the operations of a decoded text stand for, and what they do.
use Rattle.std.specs.Prelude.{ℕ, ◌+◌, ◌-◌, ◌*◌, ◌/◌, ◌%◌, ◌^◌, ◌==◌, ◌&&◌, nat_lt, Bool, List, slice_index, slice_get}
use Rattle.std.specs.Prelude.{Option, Some, None, option_map}
use Rattle.std.specs.Option.{option_or}
use Rattle.std.specs.Prelude.{◌≡◌, ◌≤◌, length, zero, suc, if◌then◌else◌}
use Rattle.guest_image.specs.ImageValue.{ImageValue}
use Rattle.guest_image.specs.declared.memory_map.TheConstants.{TEXT_START, DATA_START, STACK_START}
use Rattle.rv_table.specs.declared.instr.Instr.{Instr}
use Rattle.rv_table.specs.declared.instr.Instr.TheVariants as instr
use Rattle.rv_table.specs.declared.instr.Cond.{Cond}
use Rattle.rv_table.specs.declared.instr.Cond.TheVariants as cond
use Rattle.rv_table.specs.declared.instr.LoadWidth.{LoadWidth}
use Rattle.rv_table.specs.declared.instr.StoreWidth.{StoreWidth}
use Rattle.rv_table.specs.declared.instr.RegOp.{RegOp}
use Rattle.rv_table.specs.declared.instr.RegOp.TheVariants as reg_op
use Rattle.rv_table.specs.Exec.{plus, minus, word, holds, op_value, with_register, shift_signed, loaded_value}
use Rattle.rv_table.specs.Regs.{set_word}
use Rattle.rv_table.specs.Table.{instr_of_word}
use Rattle.rv_core.specs.Memory.{load_width, store_width, is_within, is_in_stack}
use Rattle.undo_log.specs.Number.{number_at, after_write}
use Rattle.rv_core.specs.declared.op.Op.{Op}
use Rattle.rv_core.specs.declared.op.Op.TheVariants as op
use Rattle.rv_core.specs.declared.op.Way.{Way}
use Rattle.rv_core.specs.declared.op.Way.TheVariants as way
use Rattle.rv_core.specs.declared.state.Core.{Core}
use Rattle.rv_core.specs.declared.state.Stop.{Stop}
use Rattle.rv_core.specs.declared.state.Stop.TheVariants as stop

-- what an operation is, with immediates as words and offsets in words of the text; Other needs its word
pub data Shape : Type 0 where
  Put : (rd value : ℕ) → Shape
  Jump : (rd words : ℕ) → Shape
  JumpTo : (rd rs1 imm : ℕ) → Shape
  Branch : (cond : Cond) (rs1 rs2 words : ℕ) → Shape
  Imm : (op : RegOp) (rd rs1 imm : ℕ) → Shape
  Two : (op : RegOp) (rd rs1 rs2 : ℕ) → Shape
  Load : (width : LoadWidth) (rd rs1 imm : ℕ) → Shape
  Store : (width : StoreWidth) (rs1 rs2 imm : ℕ) → Shape
  Fence : Shape
  Ecall : Shape
  Other : Shape

-- what each operation is
abbrev pub shape : Op → Shape
shape op.Slow = Other
shape op.Fence = Fence
shape op.Ecall = Ecall
shape (op.Load width rd rs1 imm) = Load width rd rs1 imm
shape (op.Store width rs1 rs2 imm) = Store width rs1 rs2 imm
shape (op.Put rd value) = Put rd value
shape (op.Jal rd words) = Jump rd words
shape (op.Jalr rd rs1 imm) = JumpTo rd rs1 imm
shape (op.Addi rd rs1 imm) = Imm reg_op.Add rd rs1 imm
shape (op.Slti rd rs1 imm) = Imm reg_op.Slt rd rs1 imm
shape (op.Sltiu rd rs1 imm) = Imm reg_op.Sltu rd rs1 imm
shape (op.Xori rd rs1 imm) = Imm reg_op.Xor rd rs1 imm
shape (op.Ori rd rs1 imm) = Imm reg_op.Or rd rs1 imm
shape (op.Andi rd rs1 imm) = Imm reg_op.And rd rs1 imm
shape (op.Slli rd rs1 imm) = Imm reg_op.Sll rd rs1 imm
shape (op.Srli rd rs1 imm) = Imm reg_op.Srl rd rs1 imm
shape (op.Srai rd rs1 imm) = Imm reg_op.Sra rd rs1 imm
shape (op.Add rd rs1 rs2) = Two reg_op.Add rd rs1 rs2
shape (op.Sub rd rs1 rs2) = Two reg_op.Sub rd rs1 rs2
shape (op.Sll rd rs1 rs2) = Two reg_op.Sll rd rs1 rs2
shape (op.Slt rd rs1 rs2) = Two reg_op.Slt rd rs1 rs2
shape (op.Sltu rd rs1 rs2) = Two reg_op.Sltu rd rs1 rs2
shape (op.Xor rd rs1 rs2) = Two reg_op.Xor rd rs1 rs2
shape (op.Srl rd rs1 rs2) = Two reg_op.Srl rd rs1 rs2
shape (op.Sra rd rs1 rs2) = Two reg_op.Sra rd rs1 rs2
shape (op.Or rd rs1 rs2) = Two reg_op.Or rd rs1 rs2
shape (op.And rd rs1 rs2) = Two reg_op.And rd rs1 rs2
shape (op.Beq rs1 rs2 words) = Branch cond.Eq rs1 rs2 words
shape (op.Bne rs1 rs2 words) = Branch cond.Ne rs1 rs2 words
shape (op.Blt rs1 rs2 words) = Branch cond.Lt rs1 rs2 words
shape (op.Bge rs1 rs2 words) = Branch cond.Ge rs1 rs2 words
shape (op.Bltu rs1 rs2 words) = Branch cond.Ltu rs1 rs2 words
shape (op.Bgeu rs1 rs2 words) = Branch cond.Geu rs1 rs2 words
shape (op.AddiOwn rd imm) = Imm reg_op.Add rd rd imm
shape (op.AndiOwn rd imm) = Imm reg_op.And rd rd imm
shape (op.SlliOwn rd imm) = Imm reg_op.Sll rd rd imm
shape (op.SrliOwn rd imm) = Imm reg_op.Srl rd rd imm
shape (op.SraiOwn rd imm) = Imm reg_op.Sra rd rd imm
shape (op.AddOwn rd rs2) = Two reg_op.Add rd rd rs2
shape (op.SubOwn rd rs2) = Two reg_op.Sub rd rd rs2
shape (op.XorOwn rd rs2) = Two reg_op.Xor rd rd rs2
shape (op.OrOwn rd rs2) = Two reg_op.Or rd rd rs2
shape (op.AndOwn rd rs2) = Two reg_op.And rd rd rs2
shape (op.Beqz rs1 words) = Branch cond.Eq rs1 0 words
shape (op.Bnez rs1 words) = Branch cond.Ne rs1 0 words

-- an offset in bytes as one in words: Other where it isn't a multiple of 4
abbrev pub in_words : ℕ → (ℕ → Shape) → Shape
in_words offset make = if offset % 4 == 0 then make (shift_signed (offset % 2 ^ 32) 2) else Other

-- what writes a register and does nothing else only goes on, like a fence, where the register is x0
abbrev pub written : ℕ → Shape → Shape
written rd shape = if rd == 0 then Fence else shape

-- what an instruction at a pc is as an operation
abbrev pub instr_shape : ℕ → Instr → Shape
instr_shape pc (instr.Lui rd imm) = written rd (Put rd imm)
instr_shape pc (instr.Auipc rd imm) = written rd (Put rd (plus pc imm))
instr_shape pc (instr.Jal rd imm) = in_words (word imm) (Jump rd)
instr_shape pc (instr.Jalr rd rs1 imm) = JumpTo rd rs1 (word imm)
instr_shape pc (instr.Branch cond rs1 rs2 imm) = in_words (word imm) (Branch cond rs1 rs2)
instr_shape pc (instr.Load width rd rs1 imm) = Load width rd rs1 (word imm)
instr_shape pc (instr.Store width rs1 rs2 imm) = Store width rs1 rs2 (word imm)
instr_shape pc (instr.OpImm op rd rs1 imm) = written rd (Imm (with_register op) rd rs1 (word imm))
instr_shape pc (instr.Op op rd rs1 rs2) = written rd (Two op rd rs1 rs2)
instr_shape pc instr.Fence = Fence
instr_shape pc instr.Ecall = Ecall
instr_shape pc instr.Ebreak = Other

-- what a word at a pc is as an operation
abbrev pub word_shape : ℕ → Option Instr → Shape
word_shape pc None = Other
word_shape pc (Some instr) = instr_shape pc instr

-- the address of a word of the text
abbrev pub address : ℕ → ℕ
address index = (TEXT_START + 4 * index) % 2 ^ 32

-- an operation is that of the word at an index
pub record IsOpOf (text : List ℕ) (index : ℕ) (op : Op) : Type 0 where
  pub word : ℕ
  pub there : slice_get text index ≡ Some word
  pub same : shape op ≡ word_shape (address index) (instr_of_word word)

-- each operation is that of the word where it stands
abbrev pub AreOf : List ℕ → List Op → Type 0
AreOf text ops = (index : ℕ) (op : Op) → slice_get ops index ≡ Some op → IsOpOf text index op

-- which word of the text stands next, and the registers
pub record Cursor : Type 0 where
  pub index : ℕ
  pub regs : List ℕ

abbrev pub cursor : ℕ → List ℕ → Cursor
cursor index regs = record { index = index; regs = regs }

-- on to the next word, with a register written
abbrev pub cursor_after_put : Cursor → ℕ → ℕ → Cursor
cursor_after_put from rd value = cursor (plus from.index 1) (set_word from.regs rd value)

-- to an address, with a register written: None where it isn't a multiple of 4
abbrev pub jump_to : Cursor → ℕ → ℕ → Option Cursor
jump_to from rd target =
    if target % 4 == 0
    then Some (cursor (minus target TEXT_START / 4) (set_word from.regs rd (plus (address from.index) 4)))
    else None

-- where an operation leads that touches registers alone
abbrev pub shape_next : Shape → Cursor → Option Cursor
shape_next (Put rd value) from = Some (cursor_after_put from rd value)
shape_next (Jump rd words) from =
    Some (cursor (plus from.index words) (set_word from.regs rd (plus (address from.index) 4)))
shape_next (JumpTo rd rs1 imm) from = jump_to from rd (plus (slice_index from.regs rs1) imm / 2 * 2)
shape_next (Branch cond rs1 rs2 words) from =
    let taken = holds cond (slice_index from.regs rs1) (slice_index from.regs rs2) in
    Some (cursor (plus from.index (if taken then words else 1)) from.regs)
shape_next (Imm op rd rs1 imm) from = Some (cursor_after_put from rd (op_value op (slice_index from.regs rs1) imm))
shape_next (Two op rd rs1 rs2) from =
    Some (cursor_after_put from rd (op_value op (slice_index from.regs rs1) (slice_index from.regs rs2)))
shape_next (Load width rd rs1 imm) from = None
shape_next (Store width rs1 rs2 imm) from = None
shape_next Fence from = Some (cursor (plus from.index 1) from.regs)
shape_next Ecall from = None
shape_next Other from = None

-- an access that stops a run: none where it is misaligned, or not in the data below the stack
abbrev pub access : ℕ → ℕ → ℕ → Stop → Option Stop
access size addr n found =
    if (addr % n == 0) && (nat_lt addr STACK_START && is_within DATA_START size addr n) then Some found else None

-- what an operation stops at, where it is a call or an access to the data below the stack that doesn't trap
abbrev pub shape_stop : ℕ → Shape → List ℕ → Option Stop
shape_stop size (Load width rd rs1 imm) regs =
    access size (plus (slice_index regs rs1) imm) (load_width width)
    (stop.Load width rd (plus (slice_index regs rs1) imm))
shape_stop size (Store width rs1 rs2 imm) regs =
    access size (plus (slice_index regs rs1) imm) (store_width width)
    (stop.Store width (plus (slice_index regs rs1) imm) (slice_index regs rs2))
shape_stop size Ecall regs = Some stop.Call
shape_stop size (Put rd value) regs = None
shape_stop size (Jump rd words) regs = None
shape_stop size (JumpTo rd rs1 imm) regs = None
shape_stop size (Branch cond rs1 rs2 words) regs = None
shape_stop size (Imm op rd rs1 imm) regs = None
shape_stop size (Two op rd rs1 rs2) regs = None
shape_stop size Fence regs = None
shape_stop size Other regs = None

-- what the operation that is found stops at
abbrev pub found_stop : ℕ → Option Op → List ℕ → Option Stop
found_stop size None regs = None
found_stop size (Some op) regs = shape_stop size (shape op) regs

-- where the code went from an index: none where it went nowhere
abbrev pub cursor_led : Way → ℕ → List ℕ → Option Cursor
cursor_led way.On index regs = Some (cursor (plus index 1) regs)
cursor_led (way.To next) index regs = Some (cursor next regs)
cursor_led way.Nowhere index regs = None

-- a cursor with the bytes of the stack
pub record Point : Type 0 where
  pub cursor : Cursor
  pub stack : List ℕ

abbrev pub point : ℕ → List ℕ → List ℕ → Point
point index regs stack = record { cursor = cursor index regs; stack = stack }

-- where the code went from an index, with the stack: none where it went nowhere
abbrev pub point_led : Way → ℕ → List ℕ → List ℕ → Option Point
point_led way.On index regs stack = Some (point (plus index 1) regs stack)
point_led (way.To next) index regs stack = Some (point next regs stack)
point_led way.Nowhere index regs stack = None

-- whether an access is aligned and lies in the stack
abbrev pub is_stack_access : ℕ → ℕ → ℕ → Bool
is_stack_access version addr n = (addr % n == 0) && is_in_stack version addr n

-- a load from the stack: none where it is misaligned or elsewhere
abbrev pub stack_load : ℕ → LoadWidth → ℕ → ℕ → Point → Option Point
stack_load version width rd addr from =
    if is_stack_access version addr (load_width width)
    then Some (record from {
      cursor =
          cursor_after_put from.cursor rd
          (loaded_value width (number_at from.stack (addr - STACK_START) (load_width width)));
    })
    else None

-- a store to the stack: none where it is misaligned or elsewhere
abbrev pub stack_store : ℕ → StoreWidth → ℕ → ℕ → Point → Option Point
stack_store version width addr value from =
    if is_stack_access version addr (store_width width)
    then Some (record {
      cursor = cursor (plus from.cursor.index 1) from.cursor.regs;
      stack = after_write from.stack (addr - STACK_START) (store_width width) value;
    })
    else None

-- where an access of the stack leads
abbrev pub stack_next : ℕ → Shape → Point → Option Point
stack_next version (Load width rd rs1 imm) from =
    stack_load version width rd (plus (slice_index from.cursor.regs rs1) imm) from
stack_next version (Store width rs1 rs2 imm) from =
    stack_store version width (plus (slice_index from.cursor.regs rs1) imm) (slice_index from.cursor.regs rs2) from
stack_next version (Put rd value) from = None
stack_next version (Jump rd words) from = None
stack_next version (JumpTo rd rs1 imm) from = None
stack_next version (Branch cond rs1 rs2 words) from = None
stack_next version (Imm op rd rs1 imm) from = None
stack_next version (Two op rd rs1 rs2) from = None
stack_next version Fence from = None
stack_next version Ecall from = None
stack_next version Other from = None

-- where an operation leads: by its registers alone, else by the stack
abbrev pub op_next : ℕ → Shape → Point → Option Point
op_next version shape from =
    option_or (option_map (λ to. record from { cursor = to }) (shape_next shape from.cursor))
    (stack_next version shape from)

-- the operation at a point leads to another point
abbrev pub OpLeads : ℕ → List Op → Point → Point → Type 0
OpLeads version ops from to =
    (op : Op) × (slice_get ops from.cursor.index ≡ Some op) × (op_next version (shape op) from ≡ Some to)

-- n operations lead from a point to another
abbrev pub OpsLead : ℕ → List Op → ℕ → Point → Point → Type 0
OpsLead version ops zero from to = from ≡ to
OpsLead version ops (suc n) from to =
    (mid : Point) × OpsLead version ops n from mid × OpLeads version ops mid to

-- the core at a cursor, with so many more instructions used
abbrev pub core_at : Core → Cursor → ℕ → Core
core_at core to n = record core { pc = address to.index; regs = to.regs; used = core.used + n }

-- the core at a point, with so many more instructions used
abbrev pub core_at_point : Core → Point → ℕ → Core
core_at_point core to n = record (core_at core to.cursor n) { stack = to.stack }

-- operations of the text of an image, each of its word
pub record AreDecoded (image : ImageValue) (ops : List Op) : Type 0 where
  pub of : AreOf image.text ops
  pub short : length image.text ≤ 65536
  pub few : length ops ≤ 65536
