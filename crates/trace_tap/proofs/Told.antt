-- A list of taps that are told one after another.
use Rattle.std.proofs.Common.{◌≡◌, ℕ, ◌+◌, ◌≤◌, List, [], ◌∷◌, map, slice_get, slice_set, Some, zero, suc, refl, ap}
use Rattle.std.proofs.Common.{sym, ◌∙◌, length, arith, get_or, ◌<◌}
use Rattle.std.proofs.lemmas.List.{map-set}
use Rattle.std.proofs.lemmas.Option.{slice_get-map, slice_get-get_or}
use Rattle.std.specs.Option.{option_map}
use Rattle.trace_tap.specs.declared.record.Record.{Record}
use Rattle.trace_tap.specs.TapValue.{TapValue, after_note}

-- the first i are told
abbrev pub front_noted : Record → ℕ → List TapValue → List TapValue
front_noted r zero hs = hs
front_noted r (suc i) [] = []
front_noted r (suc i) (h ∷ hs) = after_note r h ∷ front_noted r i hs

-- one more is told
one_more : (r : Record) (hs : List TapValue) (i : ℕ) (h : TapValue) → slice_get (front_noted r i hs) i ≡ Some h
    → slice_set (front_noted r i hs) i (after_note r h) ≡ front_noted r (i + 1) hs
one_more r [] zero h at = cc
one_more r [] (suc i) h at = cc
one_more r (x ∷ xs) zero h at = ap (λ z. after_note r z ∷ xs) (let e : h ≡ x = cc in e)
one_more r (x ∷ xs) (suc i) h at =
    let step : suc i + 1 ≡ suc (i + 1) = omega arith in rw step (ap (λ z. after_note r x ∷ z) (one_more r xs i h at))

-- where the next tap was told, one more is told
pub told_next : {X : Type 0} (see : X → TapValue) (r : Record) (xs : List X) (hs : List TapValue) (i : ℕ) (d y : X)
    → map see xs ≡ front_noted r i hs → i < length xs → see y ≡ after_note r (see (get_or xs i d))
    → map see (slice_set xs i y) ≡ front_noted r (i + 1) hs
told_next see r xs hs i d y was lt new =
    map-set see xs i y ∙ ap (λ z. slice_set z i (see y)) was ∙ ap (λ z. slice_set (front_noted r i hs) i z) new
    ∙ one_more r hs i (see (get_or xs i d)) (ap (λ z. slice_get z i) (sym was) ∙ slice_get-map see xs i ∙ ap (option_map see) (slice_get-get_or xs i d lt))

-- at the end all are told
pub told_all : (r : Record) (hs : List TapValue) (i : ℕ) → length hs ≤ i → front_noted r i hs ≡ map (after_note r) hs
told_all r [] zero le = refl
told_all r [] (suc i) le = refl
told_all r (x ∷ xs) zero le = absurd (omega (arith, le))
told_all r (x ∷ xs) (suc i) le = ap (λ z. after_note r x ∷ z) (told_all r xs i (omega (arith, le)))
