-- What an instruction does (RISC-V Unprivileged ISA 20191213, chapter 2).
use Rattle.std.specs.Prelude.{ℕ, ◌+◌, ◌*◌, ◌/◌, ◌%◌, ◌^◌, ◌-◌, ℤ, List, slice_index, Bool, not, ◌==◌, nat_lt}
use Rattle.std.specs.Prelude.{int_lt, if◌then◌else◌, bit_and, bit_or, bit_xor}
use Rattle.std.specs.Int.{w32, cast_signed, cast_unsigned}
use Rattle.rv_table.specs.Fields.{bits, signed}
use Rattle.rv_table.specs.declared.instr.Instr.{Instr}
use Rattle.rv_table.specs.declared.instr.Instr.TheVariants.{Lui, Auipc, Jal, Jalr, Branch, Load, Store, OpImm, Op}
use Rattle.rv_table.specs.declared.instr.Instr.TheVariants.{Fence, Ecall, Ebreak}
use Rattle.rv_table.specs.declared.instr.Cond.{Cond}
use Rattle.rv_table.specs.declared.instr.Cond.TheVariants as cond
use Rattle.rv_table.specs.declared.instr.LoadWidth.{LoadWidth}
use Rattle.rv_table.specs.declared.instr.LoadWidth.TheVariants as load
use Rattle.rv_table.specs.declared.instr.ImmOp.{ImmOp}
use Rattle.rv_table.specs.declared.instr.ImmOp.TheVariants as imm_op
use Rattle.rv_table.specs.declared.instr.RegOp.{RegOp}
use Rattle.rv_table.specs.declared.instr.RegOp.TheVariants as reg_op
use Rattle.rv_table.specs.declared.instr.Effect.{Effect}
use Rattle.rv_table.specs.declared.instr.Effect.TheVariants as does

-- the sum of two words, which wraps
abbrev pub plus : ℕ → ℕ → ℕ
plus x y = (x + y) % 2 ^ 32

-- the difference of two words, which wraps
abbrev pub minus : ℕ → ℕ → ℕ
minus x y = (x + (2 ^ 32 - y)) % 2 ^ 32

-- a signed number as a word, in two's complement
abbrev pub word : ℤ → ℕ
word z = cast_unsigned w32 z

-- 1 where a test holds, else 0
abbrev pub bit : Bool → ℕ
bit holds = if holds then 1 else 0

-- whether a word is below another one, both read as signed numbers
abbrev pub less_signed : ℕ → ℕ → Bool
less_signed x y = int_lt (cast_signed w32 x) (cast_signed w32 y)

-- a shift to the right by k bits that fills in copies of the sign
abbrev pub shift_signed : ℕ → ℕ → ℕ
shift_signed x k = if nat_lt x (2 ^ 31) then x / 2 ^ k else 2 ^ 32 - 1 - (2 ^ 32 - 1 - x) / 2 ^ k

-- whether a branch is taken (section 2.5)
abbrev pub holds : Cond → ℕ → ℕ → Bool
holds cond.Eq x y = x == y
holds cond.Ne x y = not (x == y)
holds cond.Lt x y = less_signed x y
holds cond.Ge x y = not (less_signed x y)
holds cond.Ltu x y = nat_lt x y
holds cond.Geu x y = not (nat_lt x y)

-- what a register-register operation computes (section 2.4); a shift uses the low 5 bits of its amount
abbrev pub op_value : RegOp → ℕ → ℕ → ℕ
op_value reg_op.Add x y = plus x y
op_value reg_op.Sub x y = minus x y
op_value reg_op.Sll x y = x * 2 ^ (y % 32) % 2 ^ 32
op_value reg_op.Slt x y = bit (less_signed x y)
op_value reg_op.Sltu x y = bit (nat_lt x y)
op_value reg_op.Xor x y = bit_xor x y
op_value reg_op.Srl x y = x / 2 ^ (y % 32)
op_value reg_op.Sra x y = shift_signed x (y % 32)
op_value reg_op.Or x y = bit_or x y
op_value reg_op.And x y = bit_and x y

-- the register-register operation that an operation with an immediate does to it (section 2.4)
abbrev pub with_register : ImmOp → RegOp
with_register imm_op.Add = reg_op.Add
with_register imm_op.Slt = reg_op.Slt
with_register imm_op.Sltu = reg_op.Sltu
with_register imm_op.Xor = reg_op.Xor
with_register imm_op.Or = reg_op.Or
with_register imm_op.And = reg_op.And
with_register imm_op.Sll = reg_op.Sll
with_register imm_op.Srl = reg_op.Srl
with_register imm_op.Sra = reg_op.Sra

-- a jump, with the register that it writes: misaligned where the target isn't a multiple of 4 (section 2.5)
abbrev pub jump : ℕ → ℕ → ℕ → Effect
jump rd value target = if target % 4 == 0 then does.Plain target rd value else does.Misaligned

-- what an instruction does at a pc with these registers
abbrev pub acts_on : ℕ → List ℕ → Instr → Effect
acts_on pc regs (Lui rd imm) = does.Plain (plus pc 4) rd imm
acts_on pc regs (Auipc rd imm) = does.Plain (plus pc 4) rd (plus pc imm)
acts_on pc regs (Jal rd imm) = jump rd (plus pc 4) (plus pc (word imm))
acts_on pc regs (Jalr rd rs1 imm) = jump rd (plus pc 4) (plus (slice_index regs rs1) (word imm) / 2 * 2)
acts_on pc regs (Branch cond rs1 rs2 imm) =
    if holds cond (slice_index regs rs1) (slice_index regs rs2) then jump 0 0 (plus pc (word imm))
    else does.Plain (plus pc 4) 0 0
acts_on pc regs (Load width rd rs1 imm) = does.Load width rd (plus (slice_index regs rs1) (word imm))
acts_on pc regs (Store width rs1 rs2 imm) =
    does.Store width (plus (slice_index regs rs1) (word imm)) (slice_index regs rs2)
acts_on pc regs (OpImm op rd rs1 imm) =
    does.Plain (plus pc 4) rd (op_value (with_register op) (slice_index regs rs1) (word imm))
acts_on pc regs (Op op rd rs1 rs2) =
    does.Plain (plus pc 4) rd (op_value op (slice_index regs rs1) (slice_index regs rs2))
acts_on pc regs Fence = does.Plain (plus pc 4) 0 0
acts_on pc regs Ecall = does.Call
acts_on pc regs Ebreak = does.Break

-- what a load writes to its register: the low 8, 16 or 32 bits of what it read, sign-extended for LB and LH
-- (section 2.6)
abbrev pub loaded_value : LoadWidth → ℕ → ℕ
loaded_value load.B raw = word (signed 8 (bits 7 0 raw))
loaded_value load.H raw = word (signed 16 (bits 15 0 raw))
loaded_value load.W raw = bits 31 0 raw
loaded_value load.Bu raw = bits 7 0 raw
loaded_value load.Hu raw = bits 15 0 raw
