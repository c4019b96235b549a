-- The instruction table of RV32I 2.1 (RISC-V Unprivileged ISA 20191213), in the order of the manual's listing in
-- chapter 24.
use Rattle.std.specs.Prelude.{◌≡◌, ℕ, ℤ, pos, List, [], ◌∷◌, Option, Some, None, Bool, true, ◌==◌, ◌&&◌, if◌then◌else◌}
use Rattle.rv_table.specs.Fields.{opcode, rd, funct3, rs1, rs2, funct7, shamt, i_immediate, s_immediate}
use Rattle.rv_table.specs.Fields.{b_immediate, u_immediate, j_immediate}
use Rattle.rv_table.specs.declared.instr.Instr.{Instr}
use Rattle.rv_table.specs.declared.instr.Instr.TheVariants.{Lui, Auipc, Jal, Jalr, Branch, Load, Store, OpImm, Op}
use Rattle.rv_table.specs.declared.instr.Instr.TheVariants.{Fence, Ecall, Ebreak}
use Rattle.rv_table.specs.declared.instr.Cond.TheVariants as cond
use Rattle.rv_table.specs.declared.instr.LoadWidth.TheVariants as load
use Rattle.rv_table.specs.declared.instr.StoreWidth.TheVariants as store
use Rattle.rv_table.specs.declared.instr.ImmOp.TheVariants as imm_op
use Rattle.rv_table.specs.declared.instr.RegOp.TheVariants as reg_op

-- which words a row is for: those with these fixed fields, or one word alone
pub data Pattern : Type 0 where
  Opcode : (opcode : ℕ) → Pattern
  Funct3 : (funct3 opcode : ℕ) → Pattern
  Funct7 : (funct7 funct3 opcode : ℕ) → Pattern
  Word : (word : ℕ) → Pattern

-- whether a word has the fixed fields of a pattern
abbrev pub fits : Pattern → ℕ → Bool
fits (Opcode op) word = opcode word == op
fits (Funct3 f3 op) word = (funct3 word == f3) && (opcode word == op)
fits (Funct7 f7 f3 op) word = (funct7 word == f7) && (funct3 word == f3) && (opcode word == op)
fits (Word v) word = word == v

-- a row: the words that it is for, and the instruction that such a word stands for
pub record Row : Type 0 where
  pub pattern : Pattern
  pub instr : ℕ → Instr

-- the formats of sections 2.2 and 2.3, with the fixed fields from the left to the right of a word
abbrev pub r_type : ℕ → ℕ → ℕ → (ℕ → ℕ → ℕ → Instr) → Row
r_type f7 f3 op make = record { pattern = Funct7 f7 f3 op; instr = λ word. make (rd word) (rs1 word) (rs2 word) }

abbrev pub i_type : ℕ → ℕ → (ℕ → ℕ → ℤ → Instr) → Row
i_type f3 op make = record { pattern = Funct3 f3 op; instr = λ word. make (rd word) (rs1 word) (i_immediate word) }

-- a shift by a constant: an I-type whose immediate is split into funct7 and shamt (section 2.4)
abbrev pub shift : ℕ → ℕ → ℕ → (ℕ → ℕ → ℤ → Instr) → Row
shift f7 f3 op make = record { pattern = Funct7 f7 f3 op; instr = λ word. make (rd word) (rs1 word) (pos (shamt word)) }

abbrev pub s_type : ℕ → ℕ → (ℕ → ℕ → ℤ → Instr) → Row
s_type f3 op make = record { pattern = Funct3 f3 op; instr = λ word. make (rs1 word) (rs2 word) (s_immediate word) }

abbrev pub b_type : ℕ → ℕ → (ℕ → ℕ → ℤ → Instr) → Row
b_type f3 op make = record { pattern = Funct3 f3 op; instr = λ word. make (rs1 word) (rs2 word) (b_immediate word) }

abbrev pub u_type : ℕ → (ℕ → ℕ → Instr) → Row
u_type op make = record { pattern = Opcode op; instr = λ word. make (rd word) (u_immediate word) }

abbrev pub j_type : ℕ → (ℕ → ℤ → Instr) → Row
j_type op make = record { pattern = Opcode op; instr = λ word. make (rd word) (j_immediate word) }

-- FENCE: its other fields are ignored (section 2.7)
abbrev pub ignoring_fields : ℕ → ℕ → Instr → Row
ignoring_fields f3 op instr = record { pattern = Funct3 f3 op; instr = λ _. instr }

abbrev pub one_word : ℕ → Instr → Row
one_word v instr = record { pattern = Word v; instr = λ _. instr }

-- the 40 instructions
abbrev pub table : List Row
table =
    -- LUI, AUIPC (section 2.4)
    u_type 0b0110111 Lui
    ∷ u_type 0b0010111 Auipc
    -- JAL, JALR, BEQ, BNE, BLT, BGE, BLTU, BGEU (section 2.5)
    ∷ j_type 0b1101111 Jal
    ∷ i_type 0b000 0b1100111 Jalr
    ∷ b_type 0b000 0b1100011 (Branch cond.Eq)
    ∷ b_type 0b001 0b1100011 (Branch cond.Ne)
    ∷ b_type 0b100 0b1100011 (Branch cond.Lt)
    ∷ b_type 0b101 0b1100011 (Branch cond.Ge)
    ∷ b_type 0b110 0b1100011 (Branch cond.Ltu)
    ∷ b_type 0b111 0b1100011 (Branch cond.Geu)
    -- LB, LH, LW, LBU, LHU, SB, SH, SW (section 2.6)
    ∷ i_type 0b000 0b0000011 (Load load.B)
    ∷ i_type 0b001 0b0000011 (Load load.H)
    ∷ i_type 0b010 0b0000011 (Load load.W)
    ∷ i_type 0b100 0b0000011 (Load load.Bu)
    ∷ i_type 0b101 0b0000011 (Load load.Hu)
    ∷ s_type 0b000 0b0100011 (Store store.B)
    ∷ s_type 0b001 0b0100011 (Store store.H)
    ∷ s_type 0b010 0b0100011 (Store store.W)
    -- ADDI, SLTI, SLTIU, XORI, ORI, ANDI, SLLI, SRLI, SRAI (section 2.4)
    ∷ i_type 0b000 0b0010011 (OpImm imm_op.Add)
    ∷ i_type 0b010 0b0010011 (OpImm imm_op.Slt)
    ∷ i_type 0b011 0b0010011 (OpImm imm_op.Sltu)
    ∷ i_type 0b100 0b0010011 (OpImm imm_op.Xor)
    ∷ i_type 0b110 0b0010011 (OpImm imm_op.Or)
    ∷ i_type 0b111 0b0010011 (OpImm imm_op.And)
    ∷ shift 0b0000000 0b001 0b0010011 (OpImm imm_op.Sll)
    ∷ shift 0b0000000 0b101 0b0010011 (OpImm imm_op.Srl)
    ∷ shift 0b0100000 0b101 0b0010011 (OpImm imm_op.Sra)
    -- ADD, SUB, SLL, SLT, SLTU, XOR, SRL, SRA, OR, AND (section 2.4)
    ∷ r_type 0b0000000 0b000 0b0110011 (Op reg_op.Add)
    ∷ r_type 0b0100000 0b000 0b0110011 (Op reg_op.Sub)
    ∷ r_type 0b0000000 0b001 0b0110011 (Op reg_op.Sll)
    ∷ r_type 0b0000000 0b010 0b0110011 (Op reg_op.Slt)
    ∷ r_type 0b0000000 0b011 0b0110011 (Op reg_op.Sltu)
    ∷ r_type 0b0000000 0b100 0b0110011 (Op reg_op.Xor)
    ∷ r_type 0b0000000 0b101 0b0110011 (Op reg_op.Srl)
    ∷ r_type 0b0100000 0b101 0b0110011 (Op reg_op.Sra)
    ∷ r_type 0b0000000 0b110 0b0110011 (Op reg_op.Or)
    ∷ r_type 0b0000000 0b111 0b0110011 (Op reg_op.And)
    -- FENCE (section 2.7)
    ∷ ignoring_fields 0b000 0b0001111 Fence
    -- ECALL, EBREAK (section 2.8)
    ∷ one_word 0x00000073 Ecall
    ∷ one_word 0x00100073 Ebreak
    ∷ []

-- the instruction of the first row that a word fits
abbrev pub first_fit : List Row → ℕ → Option Instr
first_fit [] word = None
first_fit (row ∷ rows) word = if fits row.pattern word then Some (row.instr word) else first_fit rows word

-- the instruction that a word stands for: none where the word fits no row
abbrev pub instr_of_word : ℕ → Option Instr
instr_of_word word = first_fit table word

-- no word fits both rows
abbrev pub Excludes : Row → Row → Type 0
Excludes one other = (word : ℕ) → fits one.pattern word ≡ true → fits other.pattern word ≡ true → ⊥

-- among these rows, a word that fits the row stands for that row's instruction
abbrev pub Settles : List Row → Row → Type 0
Settles rows row = (word : ℕ) → fits row.pattern word ≡ true → first_fit rows word ≡ Some (row.instr word)
