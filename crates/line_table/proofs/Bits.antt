-- One bit of a row of words, and a bit that two rows share.
use Rattle.std.proofs.Common.{◌≡◌, ◌≢◌, ◌==◌, ◌||◌, ◌↔◌, ℕ, ◌+◌, ◌*◌, ◌/◌, ◌%◌, ◌^◌, ◌<◌, Bool, true, not, List, length}
use Rattle.std.proofs.Common.{get_or, set, bit_and, bit_or, sym, ap, ◌∙◌, inl, inr, arith, w64}
use Rattle.std.specs.Int.{bit_at, trailing_zeros}
use Rattle.std.specs.List.{list_any, zip}
use Rattle.std.proofs.lemmas.Bool.{cases_eq, eq-eqb, eqb-true}
use Rattle.std.proofs.lemmas.Bool.Decides.{nat_tests}
use Rattle.std.proofs.lemmas.List.{get_or_read, get_or-set_other, get_or-set_same}
use Rattle.std.proofs.lemmas.List.Folds.{Any-from_list_any, list_any_at}
use Rattle.std.proofs.lemmas.Nat.{and_le_l}
use Rattle.std.proofs.lemmas.Slice.Zip.{get_or-zip, length-zip}
use Rattle.std.proofs.lemmas.Nat.Bits.{bit_at_and, bit_at-lt, bit_at-trailing_zeros, bit_at-zero, bit_at_set_other}
use Rattle.std.proofs.lemmas.Nat.Bits.{bit_at_set_same}

-- the words with a bit of one of them set
abbrev pub with_bit : List ℕ → ℕ → ℕ → List ℕ
with_bit words word bit = set words word (bit_or (get_or words word 0) (1 * 2 ^ bit % 2 ^ 64))

bit-with_same : (words : List ℕ) (word bit : ℕ) → word < length words → bit < 64
    → bit_at (get_or (with_bit words word bit) word 0) bit ≡ 1
bit-with_same words word bit within low =
    ap (λ n. bit_at n bit) (get_or-set_same words word (bit_or (get_or words word 0) (1 * 2 ^ bit % 2 ^ 64)) 0 within)
    ∙ bit_at_set_same w64 (get_or words word 0) bit low

bit-with_other : (words : List ℕ) (word bit place : ℕ) → word < length words → bit < 64 → place ≢ bit
    → bit_at (get_or (with_bit words word bit) word 0) place ≡ bit_at (get_or words word 0) place
bit-with_other words word bit place within low other =
    ap (λ n. bit_at n place) (get_or-set_same words word (bit_or (get_or words word 0) (1 * 2 ^ bit % 2 ^ 64)) 0 within)
    ∙ bit_at_set_other w64 (get_or words word 0) bit low place other

bit-with_elsewhere : (words : List ℕ) (word bit at place : ℕ) → at ≢ word
    → bit_at (get_or (with_bit words word bit) at 0) place ≡ bit_at (get_or words at 0) place
bit-with_elsewhere words word bit at place other =
    ap (λ n. bit_at n place) (get_or-set_other words word at (bit_or (get_or words word 0) (1 * 2 ^ bit % 2 ^ 64)) 0 other)

is_one-same : (new old a b : ℕ) → new ≡ 1 → a ≡ b → (new == 1) ≡ ((old == 1) || (a == b))
is_one-same new old a b set same = grind (arith, nat_tests)

is_one-other : (new old a b : ℕ) → new ≡ old → a ≢ b → (new == 1) ≡ ((old == 1) || (a == b))
is_one-other new old a b stays other = grind (arith, nat_tests)

bit-with_at : (words : List ℕ) (word bit at place : ℕ)
    → word < length words → bit < 64 → at ≡ word → place ≡ bit
    → bit_at (get_or (with_bit words word bit) at 0) place ≡ 1
bit-with_at words word bit at place within low here there = rw (here, there) (bit-with_same words word bit within low)

bit-with_off : (words : List ℕ) (word bit at place : ℕ)
    → word < length words → bit < 64 → (at ≡ word → place ≢ bit)
    → bit_at (get_or (with_bit words word bit) at 0) place ≡ bit_at (get_or words at 0) place
bit-with_off words word bit at place within low off = elim (cases_eq at word) [
  | inl here ↦ rw here (bit-with_other words word bit place within low (off here))
  | inr other ↦ bit-with_elsewhere words word bit at place other
]

low_bits : (n : ℕ) → n % 1024 % 64 ≡ n % 64
low_bits n = omega arith

-- a bit of a row is its word and its place there
one_bit : (line other : ℕ) → other % 1024 / 64 ≡ line % 1024 / 64 → other % 64 ≡ line % 1024 % 64
    → line % 1024 ≡ other % 1024
one_bit line other word place = omega (arith, word, place)

-- setting the bit of one line sets that of the lines that have it, and of no other
pub bit-with : (words : List ℕ) (line other : ℕ) → length words ≡ 16
    → (bit_at (get_or (with_bit words (line % 1024 / 64) (line % 1024 % 64)) (other % 1024 / 64) 0) (other % 64) == 1)
    ≡ ((bit_at (get_or words (other % 1024 / 64) 0) (other % 64) == 1) || (line % 1024 == other % 1024))
bit-with words line other long =
    let within : line % 1024 / 64 < length words = omega (arith, long) in
    let low : line % 1024 % 64 < 64 = omega arith in
    elim (cases_eq (line % 1024) (other % 1024)) [
      | inl same ↦
          let word : other % 1024 / 64 ≡ line % 1024 / 64 = ap (λ n. n / 64) (sym same) in
          let place : other % 64 ≡ line % 1024 % 64 = sym (low_bits other) ∙ ap (λ n. n % 64) (sym same) in
          is_one-same _ _ _ _ (bit-with_at words (line % 1024 / 64) (line % 1024 % 64) (other % 1024 / 64) (other % 64) within low word place) same
      | inr differ ↦
          is_one-other _ _ _ _
          (bit-with_off words (line % 1024 / 64) (line % 1024 % 64) (other % 1024 / 64) (other % 64) within low (λ word place. differ (one_bit line other word place))) differ
    ]

-- two words that share a bit, as numbers
shared_bit : (x y : ℕ) → x < 2 ^ 64 → bit_and x y ≢ 0 → (bit : ℕ) × (bit < 64) × (bit_at x bit ≡ 1) × (bit_at y bit ≡ 1)
shared_bit x y small some =
    let found = bit_at-trailing_zeros w64 (bit_and x y) (omega (arith, some)) (omega (arith, small, and_le_l x y)) in
    let both = bit_at_and x y (trailing_zeros w64 (bit_and x y)) in
    let low_x = bit_at-lt x (trailing_zeros w64 (bit_and x y)) in
    let low_y = bit_at-lt y (trailing_zeros w64 (bit_and x y)) in
    (trailing_zeros w64 (bit_and x y), found.0, omega (arith, found.1, both, low_x, low_y), omega (arith, found.1, both, low_x, low_y))

share_none : (x y bit : ℕ) → bit_at x bit ≡ 1 → bit_at y bit ≡ 1 → bit_and x y ≡ 0 → ⊥
share_none x y bit one two none =
    omega (arith, one, two, bit_at_and x y bit, ap (λ n. bit_at n bit) none ∙ bit_at-zero bit)

-- the two words share a bit
abbrev pub some_word : ℕ × ℕ → Bool
some_word p = not (bit_and p.0 p.1 == 0)

module _ (one two : List ℕ) (long : length one ≡ 16) (too : length two ≡ 16) where
  bit_from_words : ((k : ℕ) → k < 16 → get_or one k 0 < 2 ^ 64) → (k : ℕ) → k < 16
      → bit_and (get_or one k 0) (get_or two k 0) ≢ 0
      → (line : ℕ) × ((bit_at (get_or one (line % 1024 / 64) 0) (line % 64) == 1) ≡ true) × ((bit_at (get_or two (line % 1024 / 64) 0) (line % 64) == 1) ≡ true)
  bit_from_words small k within some =
      let shared = shared_bit (get_or one k 0) (get_or two k 0) (small k within) some in
      let word : (64 * k + shared.0) % 1024 / 64 ≡ k = omega (arith, shared.1, within) in
      let place : (64 * k + shared.0) % 64 ≡ shared.0 = omega (arith, shared.1) in (
        64 * k + shared.0,
        rw (word, place) (eq-eqb (bit_at (get_or one k 0) shared.0) 1 shared.2),
        rw (word, place) (eq-eqb (bit_at (get_or two k 0) shared.0) 1 shared.3),
      )

  words_from_any : list_any some_word (zip one two) ≡ true
      → (k : ℕ) × (k < 16) × (bit_and (get_or one k 0) (get_or two k 0) ≢ 0)
  words_from_any any =
      let found = Any-from_list_any some_word (zip one two) any in
      let within : found.0 < 16 = omega (arith, found.2, length-zip one two, long, too) in
      let pair = get_or-zip one two found.0 found.1 (omega (arith, within, long)) (omega (arith, within, too)) in
      let left = get_or_read one found.0 found.1.0 (omega (arith, within, long)) (ap (λ (p : ℕ × ℕ). p.0) (sym found.3 ∙ pair)) 0 in
      let right = get_or_read two found.0 found.1.1 (omega (arith, within, too)) (ap (λ (p : ℕ × ℕ). p.1) (sym found.3 ∙ pair)) 0 in
      (found.0, within, λ none. absurd (grind (arith, nat_tests, left, right, none, found.4)))

  any_from_bit : (line : ℕ) → (bit_at (get_or one (line % 1024 / 64) 0) (line % 64) == 1) ≡ true
      → (bit_at (get_or two (line % 1024 / 64) 0) (line % 64) == 1) ≡ true
      → list_any some_word (zip one two) ≡ true
  any_from_bit line left right =
      let word : line % 1024 / 64 < 16 = omega arith in
      let some : bit_and (get_or one (line % 1024 / 64) 0) (get_or two (line % 1024 / 64) 0) ≢ 0 =
      share_none (get_or one (line % 1024 / 64) 0) (get_or two (line % 1024 / 64) 0) (line % 64) (eqb-true _ _ left) (eqb-true _ _ right) in
      let pair = get_or-zip one two (line % 1024 / 64) (0, 0) (omega (arith, word, long)) (omega (arith, word, too)) in
      list_any_at some_word (zip one two) (line % 1024 / 64) (0, 0) (omega (arith, word, long, too, length-zip one two)) (ap some_word pair ∙ grind (arith, nat_tests, some))

  -- some bit is set in both rows exactly where two words at one place share one
  pub rows-share : ((k : ℕ) → k < 16 → get_or one k 0 < 2 ^ 64) → (r : Bool) → r ≡ list_any some_word (zip one two)
      → (r ≡ true)
      ↔ ((line : ℕ) × ((bit_at (get_or one (line % 1024 / 64) 0) (line % 64) == 1) ≡ true) × ((bit_at (get_or two (line % 1024 / 64) 0) (line % 64) == 1) ≡ true))
  rows-share small r is = (
    λ yes. let words = words_from_any (sym is ∙ yes) in bit_from_words small words.0 words.1 words.2,
    λ shared. is ∙ any_from_bit shared.0 shared.1 shared.2,
  )
