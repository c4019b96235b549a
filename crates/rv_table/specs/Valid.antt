-- Which instructions have a word: those whose immediate fits its format (RISC-V Unprivileged ISA 20191213, section
-- 2.3).
use Rattle.std.specs.Prelude.{◌%◌, ◌^◌, ◌==◌, ◌&&◌, ℤ, pos, negsuc, int_le, Bool, true}
use Rattle.std.specs.Int.{w32, cast_unsigned}
use Rattle.rv_table.specs.declared.instr.Instr.{Instr}
use Rattle.rv_table.specs.declared.instr.Instr.TheVariants.{Lui, Auipc, Jal, Jalr, Branch, Load, Store, OpImm, Op}
use Rattle.rv_table.specs.declared.instr.Instr.TheVariants.{Fence, Ecall, Ebreak}
use Rattle.rv_table.specs.declared.instr.ImmOp.{ImmOp}
use Rattle.rv_table.specs.declared.instr.ImmOp.TheVariants as imm_op

-- whether a number is from low to high, both included
abbrev pub is_from : ℤ → ℤ → ℤ → Bool
is_from low high z = int_le low z && int_le z high

abbrev pub is_even : ℤ → Bool
is_even z = cast_unsigned w32 z % 2 == 0

-- whether a number fits an I- or S-immediate: -2,048 to 2,047
abbrev pub is_twelve_bits : ℤ → Bool
is_twelve_bits z = is_from (negsuc 2047) (pos 2047) z

-- whether a number is an immediate of this operation: 0 to 31 for a shift
abbrev pub is_operand : ImmOp → ℤ → Bool
is_operand imm_op.Add z = is_twelve_bits z
is_operand imm_op.Slt z = is_twelve_bits z
is_operand imm_op.Sltu z = is_twelve_bits z
is_operand imm_op.Xor z = is_twelve_bits z
is_operand imm_op.Or z = is_twelve_bits z
is_operand imm_op.And z = is_twelve_bits z
is_operand imm_op.Sll z = is_from (pos 0) (pos 31) z
is_operand imm_op.Srl z = is_from (pos 0) (pos 31) z
is_operand imm_op.Sra z = is_from (pos 0) (pos 31) z

-- whether a number is an even one from -4,096 to 4,094, as a B-immediate is
abbrev pub is_branch_offset : ℤ → Bool
is_branch_offset z = is_even z && is_from (negsuc 4095) (pos 4094) z

-- whether a number is an even one from -1,048,576 to 1,048,574, as a J-immediate is
abbrev pub is_jump_offset : ℤ → Bool
is_jump_offset z = is_even z && is_from (negsuc 1048575) (pos 1048574) z

-- whether an instruction has a word
abbrev pub valid : Instr → Bool
valid (Lui rd imm) = imm % 2 ^ 12 == 0
valid (Auipc rd imm) = imm % 2 ^ 12 == 0
valid (Jal rd imm) = is_jump_offset imm
valid (Jalr rd rs1 imm) = is_twelve_bits imm
valid (Branch cond rs1 rs2 imm) = is_branch_offset imm
valid (Load width rd rs1 imm) = is_twelve_bits imm
valid (Store width rs1 rs2 imm) = is_twelve_bits imm
valid (OpImm op rd rs1 imm) = is_operand op imm
valid (Op op rd rs1 rs2) = true
valid Fence = true
valid Ecall = true
valid Ebreak = true
