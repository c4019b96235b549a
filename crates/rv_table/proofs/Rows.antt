-- The rows of the table are apart: a test on each pair of them finds a fixed field in which they differ. So each row
-- gives the instruction of every word that fits it.
use Rattle.std.proofs.Common.{◌≡◌, ℕ, ◌==◌, ◌&&◌, ◌||◌, not, Bool, true, false, Option, Some, None, List, [], ◌∷◌, refl}
use Rattle.std.proofs.Common.{ap, arith, suc, ◌<◌, length}
use Rattle.std.specs.List.{list_all, All, AllPairs}
use Rattle.std.proofs.lemmas.List.Sums.{AllPass-from_list_all}
use Rattle.std.proofs.lemmas.List.Elements.{All-cons}
use Rattle.std.proofs.lemmas.List.Kept.{AllPairs-cons}
use Rattle.std.proofs.lemmas.Bool.{eqb-true, eq-eqb, and_parts, false_from_ne_true}
use Rattle.rv_table.specs.Fields.{opcode, funct3, funct7}
use Rattle.rv_table.specs.Table.{Pattern, Opcode, Funct3, Funct7, Word, fits, Row, table, Excludes, Settles}

-- the fields that a pattern fixes
abbrev fixed_opcode : Pattern → Option ℕ
fixed_opcode (Opcode op) = Some op
fixed_opcode (Funct3 f3 op) = Some op
fixed_opcode (Funct7 f7 f3 op) = Some op
fixed_opcode (Word word) = Some (opcode word)

abbrev fixed_funct3 : Pattern → Option ℕ
fixed_funct3 (Opcode op) = None
fixed_funct3 (Funct3 f3 op) = Some f3
fixed_funct3 (Funct7 f7 f3 op) = Some f3
fixed_funct3 (Word word) = Some (funct3 word)

abbrev fixed_funct7 : Pattern → Option ℕ
fixed_funct7 (Opcode op) = None
fixed_funct7 (Funct3 f3 op) = None
fixed_funct7 (Funct7 f7 f3 op) = Some f7
fixed_funct7 (Word word) = Some (funct7 word)

abbrev fixed_word : Pattern → Option ℕ
fixed_word (Opcode op) = None
fixed_word (Funct3 f3 op) = None
fixed_word (Funct7 f7 f3 op) = None
fixed_word (Word word) = Some word

-- a number is the one that is fixed, if one is
abbrev Has : Option ℕ → ℕ → Type 0
Has None n = Unit {0}
Has (Some m) n = n ≡ m

-- whether two different numbers are fixed
abbrev differ : Option ℕ → Option ℕ → Bool
differ None b = false
differ (Some m) None = false
differ (Some m) (Some n) = not (m == n)

abbrev are_apart : Pattern → Pattern → Bool
are_apart p q =
    differ (fixed_opcode p) (fixed_opcode q)
    || differ (fixed_funct3 p) (fixed_funct3 q)
    || differ (fixed_funct7 p) (fixed_funct7 q)
    || differ (fixed_word p) (fixed_word q)

-- what a word that fits a pattern has of its fixed fields
record HasFixed (p : Pattern) (word : ℕ) : Type 0 where
  opcode_is : Has (fixed_opcode p) (opcode word)
  funct3_is : Has (fixed_funct3 p) (funct3 word)
  funct7_is : Has (fixed_funct7 p) (funct7 word)
  word_is : Has (fixed_word p) word

has_fixed : (p : Pattern) (word : ℕ) → fits p word ≡ true → HasFixed p word
has_fixed (Opcode op) word h = record { opcode_is = eqb-true _ _ h; funct3_is = tt; funct7_is = tt; word_is = tt }
has_fixed (Funct3 f3 op) word h =
    let (three, op_is) = and_parts _ _ h in
    record { opcode_is = eqb-true _ _ op_is; funct3_is = eqb-true _ _ three; funct7_is = tt; word_is = tt }
has_fixed (Funct7 f7 f3 op) word h =
    let (upper, op_is) = and_parts _ _ h in
    let (seven, three) = and_parts _ _ upper in
    record {
      opcode_is = eqb-true _ _ op_is;
      funct3_is = eqb-true _ _ three;
      funct7_is = eqb-true _ _ seven;
      word_is = tt;
    }
has_fixed (Word v) word h =
    let same : word ≡ v = eqb-true _ _ h in
    record { opcode_is = ap opcode same; funct3_is = ap funct3 same; funct7_is = ap funct7 same; word_is = same }

-- one number is not two different ones
same_number : (a b : Option ℕ) (n : ℕ) → Has a n → Has b n → differ a b ≡ false
same_number None b n p q = refl
same_number (Some m) None n p q = refl
same_number (Some m) (Some k) n p q =
    let same : m ≡ k = cc in
    let equal : (m == k) ≡ true = eq-eqb m k same in
    rw equal refl

false_true : false ≡ true → ⊥
false_true h = cc

apart : (p q : Pattern) (word : ℕ) → are_apart p q ≡ true → fits p word ≡ true → fits q word ≡ true → ⊥
apart p q word h one other =
    let p_has = has_fixed p word one in
    let q_has = has_fixed q word other in
    let opcodes = same_number _ _ _ p_has.opcode_is q_has.opcode_is in
    let funct3s = same_number _ _ _ p_has.funct3_is q_has.funct3_is in
    let funct7s = same_number _ _ _ p_has.funct7_is q_has.funct7_is in
    let words = same_number _ _ _ p_has.word_is q_has.word_is in
    false_true (rw (opcodes, funct3s, funct7s, words) at h)

-- whether each two of the rows are apart
abbrev all_apart : List Row → Bool
all_apart [] = true
all_apart (row ∷ rows) = list_all (λ other. are_apart row.pattern other.pattern) rows && all_apart rows

from_test : (rows : List Row) → all_apart rows ≡ true → AllPairs Excludes rows
from_test [] h = λ i j d below inside. absurd (omega arith)
from_test (row ∷ rows) h =
    let (here, later) = and_parts _ _ h in
    AllPairs-cons Excludes row rows
    (λ k d inside word one other. apart _ _ word (AllPass-from_list_all _ rows here k d inside) one other)
    (from_test rows later)

pub table_is_apart : AllPairs Excludes table
table_is_apart = from_test table refl

tail_apart : (row : Row) (rows : List Row) → AllPairs Excludes (row ∷ rows) → AllPairs Excludes rows
tail_apart row rows h = λ i j d below inside word one other.
    let below_suc : suc i < suc j = omega arith in
    let inside_suc : suc j < length (row ∷ rows) = omega arith in
    h (suc i) (suc j) d below_suc inside_suc word one other

settles : (rows : List Row) → AllPairs Excludes rows → All (Settles rows) rows
settles [] h = λ k d inside. absurd (omega arith)
settles (row ∷ rows) h =
    All-cons (Settles (row ∷ rows)) row rows
    (λ word fit. rw fit refl)
    (λ k d inside word fit.
    let before : 0 < suc k = omega arith in
    let within : suc k < length (row ∷ rows) = omega arith in
    let misses : fits row.pattern word ≡ false = false_from_ne_true _ (λ first. h 0 (suc k) d before within word first fit) in
    rw misses (settles rows (tail_apart row rows h) k d inside word fit))

pub table_settles : All (Settles table) table
table_settles = settles table table_is_apart
