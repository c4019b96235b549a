-- Lists of taps that are read number by number.
use Rattle.std.proofs.Common.{ℕ, ◌+◌, ◌≡◌, ◌<◌, ◌∙◌, List, [], ◌∷◌, ◌++◌, length, map, take, sym, ap, refl, Option}
use Rattle.std.proofs.Common.{Some, None, option_map, option_and_then, slice_get, arith}
use Rattle.std.proofs.lemmas.List.{map-append, take_all}
use Rattle.std.proofs.lemmas.Option.{slice_get-map, slice_get-get_or}
use Rattle.trace_tap.specs.TapValue.{TapValue}
use Rattle.fractal_vt.proofs.Proved.{take_one_more}

-- the lists of these taps
abbrev lists_of : List TapValue → List (List ℕ)
lists_of taps = map (λ reading. reading.list) taps

module _ (taps : List TapValue) (tap : ℕ) where
  mapped : slice_get (lists_of taps) tap ≡ option_map (λ reading. reading.list) (slice_get taps tap)
  mapped = slice_get-map (λ (reading : TapValue). reading.list) taps tap

  -- behind the last tap there is no list
  pub no_tap : None ≡ option_map (λ reading. length reading.list) (slice_get taps tap)
      → None ≡ slice_get (lists_of taps) tap
  no_tap none = by_tap (slice_get taps tap) none ∙ sym mapped
    where
      by_tap : (found : Option TapValue) → None ≡ option_map (λ reading. length reading.list) found
          → None ≡ option_map (λ reading. reading.list) found
      by_tap None is = refl
      by_tap (Some reading) is = absurd (cc (is))

  -- within its length a list has no gap
  pub no_gap : (place len : ℕ) → Some len ≡ option_map (λ reading. length reading.list) (slice_get taps tap)
      → place < len
      → None ≡ option_and_then (λ reading. slice_get reading.list place) (slice_get taps tap) → ⊥
  no_gap place len = by_tap (slice_get taps tap)
    where
      by_tap : (found : Option TapValue) → Some len ≡ option_map (λ reading. length reading.list) found → place < len
          → None ≡ option_and_then (λ reading. slice_get reading.list place) found → ⊥
      by_tap None long below none = cc
      by_tap (Some reading) long below none =
          let same : len ≡ length reading.list = cc in
          let there = slice_get-get_or reading.list place 0 (omega (arith, same, below)) in
          cc

  -- the number that was read is the next one of the list
  pub next_read : (list : List ℕ) (place number : ℕ) (before after : List ℕ) → slice_get (lists_of taps) tap ≡ Some list
      → before ≡ take place list
      → Some number ≡ option_and_then (λ reading. slice_get reading.list place) (slice_get taps tap)
      → after ≡ before ++ number ∷ [] → after ≡ take (place + 1) list
  next_read list place number before after at is read more =
      more ∙ ap (λ l. l ++ number ∷ []) is
      ∙ sym (take_one_more list place number (by_tap (slice_get taps tap) (sym mapped ∙ at) read))
    where
      by_tap : (found : Option TapValue) → option_map (λ reading. reading.list) found ≡ Some list
          → Some number ≡ option_and_then (λ reading. slice_get reading.list place) found
          → slice_get list place ≡ Some number
      by_tap None here it = absurd (cc (here))
      by_tap (Some reading) here it =
          let same : reading.list ≡ list = cc in
          ap (λ l. slice_get l place) (sym same) ∙ sym it

  -- what was read up to its length is the list
  pub whole_read : (len : ℕ) (items : List ℕ)
      → Some len ≡ option_map (λ reading. length reading.list) (slice_get taps tap)
      → ((list : List ℕ) → slice_get (lists_of taps) tap ≡ Some list → items ≡ take len list)
      → Some items ≡ slice_get (lists_of taps) tap
  whole_read len items long is = by_tap (slice_get taps tap) mapped long
    where
      by_tap : (found : Option TapValue) → slice_get (lists_of taps) tap ≡ option_map (λ reading. reading.list) found
          → Some len ≡ option_map (λ reading. length reading.list) found → Some items ≡ slice_get (lists_of taps) tap
      by_tap None at long = absurd (cc (long))
      by_tap (Some reading) at long =
          let same : len ≡ length reading.list = cc in
          let all : items ≡ reading.list = is reading.list at ∙ take_all len reading.list (omega (arith, same)) in
          ap (λ l. Some l) all ∙ sym at

-- one list more was told
pub next_told : {X : Type 0} (see : X → List ℕ) (lists : List (List ℕ)) (tap : ℕ) (before after : List X) (list : X)
    → map see before ≡ take tap lists
    → Some (see list) ≡ slice_get lists tap → after ≡ before ++ list ∷ [] → map see after ≡ take (tap + 1) lists
next_told see lists tap before after list is at more =
    ap (map see) more ∙ map-append see before (list ∷ []) ∙ ap (λ l. l ++ see list ∷ []) is
    ∙ sym (take_one_more lists tap (see list) (sym at))
