-- The fields and the immediates of a word, as the RISC-V Unprivileged ISA 20191213 names them (sections 2.2 and 2.3).
use Rattle.std.specs.Prelude.{ℕ, ◌+◌, ◌*◌, ◌/◌, ◌%◌, ◌^◌, ◌-◌, ℤ, pos, ◌-ℤ◌, nat_lt, if◌then◌else◌}

-- the bits from high down to low of a word, as a number
abbrev pub bits : ℕ → ℕ → ℕ → ℕ
bits high low word = word / 2 ^ low % 2 ^ (high + 1 - low)

-- a number of n bits, read in two's complement
abbrev pub signed : ℕ → ℕ → ℤ
signed n number = if nat_lt number (2 ^ (n - 1)) then pos number else pos number -ℤ pos (2 ^ n)

-- the kind of instruction
abbrev pub opcode : ℕ → ℕ
opcode word = bits 6 0 word

-- the destination register
abbrev pub rd : ℕ → ℕ
rd word = bits 11 7 word

-- which instruction of its kind
abbrev pub funct3 : ℕ → ℕ
funct3 word = bits 14 12 word

-- the first source register
abbrev pub rs1 : ℕ → ℕ
rs1 word = bits 19 15 word

-- the second source register
abbrev pub rs2 : ℕ → ℕ
rs2 word = bits 24 20 word

-- which instruction among those of one funct3
abbrev pub funct7 : ℕ → ℕ
funct7 word = bits 31 25 word

-- the shift amount of a shift by a constant
abbrev pub shamt : ℕ → ℕ
shamt word = bits 24 20 word

-- the I-immediate: 12 bits, sign-extended
abbrev pub i_immediate : ℕ → ℤ
i_immediate word = signed 12 (bits 31 20 word)

-- the S-immediate: 12 bits in two pieces, sign-extended
abbrev pub s_immediate : ℕ → ℤ
s_immediate word = signed 12 (bits 31 25 word * 2 ^ 5 + bits 11 7 word)

-- the B-immediate: an even number of 13 bits in four pieces, sign-extended
abbrev pub b_immediate : ℕ → ℤ
b_immediate word =
    signed 13 (bits 31 31 word * 2 ^ 12 + bits 7 7 word * 2 ^ 11 + bits 30 25 word * 2 ^ 5 + bits 11 8 word * 2)

-- the U-immediate: the upper 20 bits, with 12 zeros below
abbrev pub u_immediate : ℕ → ℕ
u_immediate word = bits 31 12 word * 2 ^ 12

-- the J-immediate: an even number of 21 bits in four pieces, sign-extended
abbrev pub j_immediate : ℕ → ℤ
j_immediate word =
    signed 21 (bits 31 31 word * 2 ^ 20 + bits 19 12 word * 2 ^ 12 + bits 20 20 word * 2 ^ 11 + bits 30 21 word * 2)
