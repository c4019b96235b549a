-- The programs of the generated images, as instructions of RV32I 2.1 (RISC-V Unprivileged ISA 20191213, chapter 2)
-- and as words.
use Rattle.std.specs.Prelude.{ℕ, ℤ, pos, negsuc, List, [], ◌∷◌}
use Rattle.rv_table.specs.declared.instr.Instr.{Instr}
use Rattle.rv_table.specs.declared.instr.Instr.TheVariants.{Lui, Branch, Load, Store, OpImm, Op, Ecall}
use Rattle.rv_table.specs.declared.instr.Cond.TheVariants as cond
use Rattle.rv_table.specs.declared.instr.LoadWidth.TheVariants as load
use Rattle.rv_table.specs.declared.instr.StoreWidth.TheVariants as store
use Rattle.rv_table.specs.declared.instr.ImmOp.TheVariants as imm_op
use Rattle.rv_table.specs.declared.instr.RegOp.TheVariants as reg_op

-- the instructions in the operand order of the assembler

abbrev pub addi : ℕ → ℕ → ℤ → Instr
addi rd rs1 imm = OpImm imm_op.Add rd rs1 imm

abbrev pub slli : ℕ → ℕ → ℕ → Instr
slli rd rs1 amount = OpImm imm_op.Sll rd rs1 (pos amount)

abbrev pub add : ℕ → ℕ → ℕ → Instr
add rd rs1 rs2 = Op reg_op.Add rd rs1 rs2

abbrev pub lw : ℕ → ℕ → Instr
lw rd rs1 = Load load.W rd rs1 (pos 0)

abbrev pub sw : ℕ → ℕ → Instr
sw rs2 rs1 = Store store.W rs1 rs2 (pos 0)

-- a breadth-first walk: the task of a node (x10) whose word in the distance table (at x11) is 0 sets it to its
-- timestamp (x13) plus 1, and enqueues the nodes at the end of its edges, three at most, at that timestamp
unfoldable pub breadth_first_walk : List Instr
breadth_first_walk =
    slli 5 10 2  -- slli x5, x10, 2
    ∷ add 6 11 5  -- add x6, x11, x5
    ∷ lw 7 6  -- lw x7, 0(x6)
    ∷ Branch cond.Ne 7 0 (pos 76)  -- bne x7, x0, +76
    ∷ addi 8 13 (pos 1)  -- addi x8, x13, 1
    ∷ sw 8 6  -- sw x8, 0(x6)
    ∷ slli 7 10 3  -- slli x7, x10, 3
    ∷ add 5 5 7  -- add x5, x5, x7
    ∷ Lui 7 0x10000000  -- lui x7, 0x10000
    ∷ add 5 5 7  -- add x5, x5, x7
    ∷ addi 9 0 (pos 3)  -- addi x9, x0, 3
    ∷ addi 13 11 (pos 0)  -- addi x13, x11, 0
    ∷ addi 11 8 (pos 0)  -- addi x11, x8, 0
    ∷ addi 17 0 (pos 1)  -- addi x17, x0, 1
    ∷ Lui 10 0x10000  -- lui x10, 0x10
    ∷ lw 12 5  -- lw x12, 0(x5)
    ∷ Branch cond.Lt 12 0 (pos 12)  -- blt x12, x0, +12
    ∷ addi 15 12 (pos 0)  -- addi x15, x12, 0
    ∷ Ecall  -- ecall
    ∷ addi 5 5 (pos 4)  -- addi x5, x5, 4
    ∷ addi 9 9 (negsuc 0)  -- addi x9, x9, -1
    ∷ Branch cond.Ne 9 0 (negsuc 23)  -- bne x9, x0, -24
    ∷ addi 17 0 (pos 0)  -- addi x17, x0, 0
    ∷ Ecall  -- ecall
    ∷ []

-- the words of the breadth-first walk
unfoldable pub walk_words : List ℕ
walk_words =
    0x00251293 ∷ 0x00558333 ∷ 0x00032383 ∷ 0x04039663 ∷ 0x00168413 ∷ 0x00832023 ∷ 0x00351393 ∷ 0x007282b3
    ∷ 0x100003b7 ∷ 0x007282b3 ∷ 0x00300493 ∷ 0x00058693 ∷ 0x00040593 ∷ 0x00100893 ∷ 0x00010537 ∷ 0x0002a603
    ∷ 0x00064663 ∷ 0x00060793 ∷ 0x00000073 ∷ 0x00428293 ∷ 0xfff48493 ∷ 0xfe0494e3 ∷ 0x00000893 ∷ 0x00000073 ∷ []

-- nested additions: the initial task has an amount (x10) and the addresses of two cells (x11 and x12); it makes an
-- ordered subdomain with two tasks, which add the amount to the second cell at timestamp 1 and to the first at
-- timestamp 0
unfoldable pub nested_additions : List Instr
nested_additions =
    addi 17 0 (pos 4)  -- addi x17, x0, 4
    ∷ addi 5 10 (pos 0)  -- addi x5, x10, 0
    ∷ addi 6 11 (pos 0)  -- addi x6, x11, 0
    ∷ addi 7 12 (pos 0)  -- addi x7, x12, 0
    ∷ addi 10 0 (pos 1)  -- addi x10, x0, 1
    ∷ Ecall  -- ecall
    ∷ addi 17 0 (pos 2)  -- addi x17, x0, 2
    ∷ Lui 10 0x10000  -- lui x10, 0x10
    ∷ addi 10 10 (pos 72)  -- addi x10, x10, 72
    ∷ addi 12 5 (pos 0)  -- addi x12, x5, 0
    ∷ addi 13 7 (pos 0)  -- addi x13, x7, 0
    ∷ addi 11 0 (pos 1)  -- addi x11, x0, 1
    ∷ Ecall  -- ecall
    ∷ addi 13 6 (pos 0)  -- addi x13, x6, 0
    ∷ addi 11 0 (pos 0)  -- addi x11, x0, 0
    ∷ Ecall  -- ecall
    ∷ addi 17 0 (pos 0)  -- addi x17, x0, 0
    ∷ Ecall  -- ecall
    ∷ lw 5 11  -- lw x5, 0(x11)
    ∷ add 5 5 10  -- add x5, x5, x10
    ∷ sw 5 11  -- sw x5, 0(x11)
    ∷ addi 17 0 (pos 0)  -- addi x17, x0, 0
    ∷ Ecall  -- ecall
    ∷ []

-- the words of the nested additions
unfoldable pub nest_words : List ℕ
nest_words =
    0x00400893 ∷ 0x00050293 ∷ 0x00058313 ∷ 0x00060393 ∷ 0x00100513 ∷ 0x00000073 ∷ 0x00200893 ∷ 0x00010537
    ∷ 0x04850513 ∷ 0x00028613 ∷ 0x00038693 ∷ 0x00100593 ∷ 0x00000073 ∷ 0x00030693 ∷ 0x00000593 ∷ 0x00000073
    ∷ 0x00000893 ∷ 0x00000073 ∷ 0x0005a283 ∷ 0x00a282b3 ∷ 0x0055a023 ∷ 0x00000893 ∷ 0x00000073 ∷ []
