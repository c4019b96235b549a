-- Lists of slots of which each item is replaced, one after another.
use Rattle.std.proofs.Common.{◌≡◌, ◌+◌, ◌∷◌, ◌++◌, ℕ, zero, suc, List, [], map, take, drop, Option, Some, None, refl}
use Rattle.std.proofs.Common.{sym, ap, ◌∙◌, arith, option_map, slice_index_or}
use Rattle.std.specs.Prelude.{slice_set}

-- the first items are replaced, and the others stand as they did
abbrev pub over : {X : Type 0} → (X → X) → List X → ℕ → List X
over f xs i = map f (take i xs) ++ drop i xs

module _ {X : Type 0} (f : X → X) where
  none_next : (xs : List (Option X)) (i : ℕ) → slice_index_or (over (option_map f) xs i) i None ≡ None
      → over (option_map f) xs i ≡ over (option_map f) xs (suc i)
  none_next [] zero at = refl
  none_next [] (suc i) at = refl
  none_next (x ∷ xs) zero at = ap (λ y. y ∷ xs) (at ∙ sym (ap (option_map f) at))
  none_next (x ∷ xs) (suc i) at = ap (λ ys. option_map f x ∷ ys) (none_next xs i at)

  some_next : (xs : List (Option X)) (i : ℕ) (x : X) → slice_index_or (over (option_map f) xs i) i None ≡ Some x
      → slice_set (over (option_map f) xs i) i (Some (f x)) ≡ over (option_map f) xs (suc i)
  some_next [] zero x at = absurd (cc (at))
  some_next [] (suc i) x at = absurd (cc (at))
  some_next (y ∷ xs) zero x at = ap (λ z. z ∷ xs) (sym (ap (option_map f) at))
  some_next (y ∷ xs) (suc i) x at = ap (λ ys. option_map f y ∷ ys) (some_next xs i x at)

  -- a slot with nothing stays
  pub slot_stays : (xs ys : List (Option X)) (i : ℕ) → ys ≡ over (option_map f) xs i → slice_index_or ys i None ≡ None
      → ys ≡ over (option_map f) xs (i + 1)
  slot_stays xs ys i is at =
      let next : suc i ≡ i + 1 = omega arith in
      is ∙ none_next xs i (ap (λ zs. slice_index_or zs i None) (sym is) ∙ at) ∙ ap (over (option_map f) xs) next

  -- what stands in a slot is replaced
  pub slot_changes : (xs ys : List (Option X)) (i : ℕ) (x now : X) → ys ≡ over (option_map f) xs i
      → slice_index_or ys i None ≡ Some x → now ≡ f x
      → slice_set ys i (Some now) ≡ over (option_map f) xs (i + 1)
  slot_changes xs ys i x now is at same =
      let next : suc i ≡ i + 1 = omega arith in
      ap (λ zs. slice_set zs i (Some now)) is ∙ ap (λ y. slice_set (over (option_map f) xs i) i (Some y)) same
      ∙ some_next xs i x (ap (λ zs. slice_index_or zs i None) (sym is) ∙ at) ∙ ap (over (option_map f) xs) next
