-- The order of a list does not depend on how it was permuted.
use Rattle.std.proofs.Common.{◌≡◌, ◌≢◌, ◌⊎◌, inl, inr, ℕ, suc, ◌+◌, ◌-◌, ◌<◌, ◌≤◌, List, [], ◌∷◌, ◌++◌, length, get_or}
use Rattle.std.proofs.Common.{set, take, drop, refl, sym, ap, subst, ◌∙◌, arith}
use Rattle.std.specs.List.{swap}
use Rattle.std.specs.List.Sorted.{IsPermutation}
use Rattle.std.specs.declared.cmp.Ordering.{Ordering}
use Rattle.std.specs.declared.cmp.Ordering.TheVariants.{Equal}
use Rattle.std.specs.Cmp.{IsTotalOrder}
use Rattle.std.proofs.lemmas.Bool.{cases_lt}
use Rattle.std.proofs.lemmas.List.{append_assoc, set_split, set-append_right, set-get_or, set-set, set_comm}
use Rattle.std.proofs.lemmas.List.{length-take-le, length-drop, drop_more, take-append-drop, get_or-drop}
use Rattle.std.proofs.lemmas.List.{get_or_default}
use Rattle.std.proofs.lemmas.List.Sorted.{IsPermutation-keeps}
use Rattle.fractal_vt.specs.Sorted.{IsInOrder, after_insert}
use Rattle.fractal_vt.proofs.Sorted.{in_turn, in_turn-middle, in_turn-in_order, after_insert-after_insert}

-- a list by what stands at two of its places
record At {X : Type 0} (xs : List X) (i j : ℕ) (d : X) : Type 0 where
  front : List X
  between : List X
  back : List X
  is : xs ≡ front ++ get_or xs i d ∷ (between ++ get_or xs j d ∷ back)
  front_long : length front ≡ i
  between_long : length between + suc i ≡ j

split_one : {X : Type 0} (xs : List X) (i : ℕ) (d : X) → i < length xs
    → xs ≡ take i xs ++ get_or xs i d ∷ drop (suc i) xs
split_one xs i d inside = sym (set-get_or xs i d) ∙ set_split xs i (get_or xs i d) inside

at_two : {X : Type 0} (xs : List X) (i j : ℕ) (d : X) → i < j → j < length xs → At xs i j d
at_two xs i j d before inside =
    let rest = drop (suc i) xs in
    let long = length-drop (suc i) xs in
    let there : get_or rest (j - suc i) d ≡ get_or xs j d = get_or-drop (suc i) xs (j - suc i) d ∙ ap (λ n. get_or xs n d) (omega arith) in
    record {
      front = take i xs;
      between = take (j - suc i) rest;
      back = drop (suc (j - suc i)) rest;
      is =
          split_one xs i d (omega arith)
          ∙ ap (λ zs. take i xs ++ get_or xs i d ∷ zs) (split_one rest (j - suc i) d (omega arith) ∙ ap (λ x. take (j - suc i) rest ++ x ∷ drop (suc (j - suc i)) rest) there);
      front_long = length-take-le i xs (omega arith);
      between_long = (let short = length-take-le (j - suc i) rest (omega arith) in omega arith);
    }

-- what two writes leave of a list in five parts
two_sets : {X : Type 0} (front between back : List X) (x y a b : X) (i j : ℕ) → length front ≡ i
    → length between + suc i ≡ j
    → set (set (front ++ x ∷ (between ++ y ∷ back)) i a) j b ≡ front ++ a ∷ (between ++ b ∷ back)
two_sets front between back x y a b i j front_long between_long =
    ap (λ zs. set zs j b) (Rattle.std.proofs.lemmas.List.set_at front x (between ++ y ∷ back) a i front_long)
    ∙ ap (λ zs. set zs j b) (sym (append_assoc front (a ∷ between) (y ∷ back)))
    ∙ Rattle.std.proofs.lemmas.List.set_at (front ++ a ∷ between) y back b j (let long = Rattle.std.proofs.lemmas.List.length-append front (a ∷ between) in omega arith)
    ∙ append_assoc front (a ∷ between) (b ∷ back)

module _ {X : Type 0} (R : X → X → Ordering) (total : IsTotalOrder R) (same : (a b : X) → R a b ≡ Equal → a ≡ b) where
  turned : List X → List X → Type 0
  turned xs ys = in_turn R total same ys ≡ in_turn R total same xs

  swapped_parts : (front between back : List X) (x y : X)
      → in_turn R total same (front ++ x ∷ (between ++ y ∷ back)) ≡ in_turn R total same (front ++ y ∷ (between ++ x ∷ back))
  swapped_parts front between back x y = one x y ∙ after_insert-after_insert R total same x y _ ∙ sym (one y x)
    where
      one : (a b : X)
          → in_turn R total same (front ++ a ∷ (between ++ b ∷ back)) ≡ after_insert R a (after_insert R b (in_turn R total same ((front ++ between) ++ back)))
      one a b =
          in_turn-middle R total same front a (between ++ b ∷ back)
          ∙ ap (λ zs. after_insert R a (in_turn R total same zs)) (sym (append_assoc front between (b ∷ back)))
          ∙ ap (after_insert R a) (in_turn-middle R total same (front ++ between) b back)

  swap_below : (xs : List X) (i j : ℕ) (d : X) → i < j → j < length xs
      → in_turn R total same (set (set xs i (get_or xs j d)) j (get_or xs i d)) ≡ in_turn R total same xs
  swap_below xs i j d before inside =
      let at = at_two xs i j d before inside in
      let x = get_or xs i d in
      let y = get_or xs j d in
      ap (λ zs. in_turn R total same (set (set zs i y) j x)) at.is
      ∙ ap (in_turn R total same) (two_sets at.front at.between at.back x y y x i j at.front_long at.between_long)
      ∙ swapped_parts at.front at.between at.back y x
      ∙ sym (ap (in_turn R total same) at.is)

  swap_any : (xs : List X) (i j : ℕ) (d : X) → i < length xs → j < length xs
      → in_turn R total same (set (set xs i (get_or xs j d)) j (get_or xs i d)) ≡ in_turn R total same xs
  swap_any xs i j d first second = by_case (cases_lt i j) (cases_lt j i)
    where
      by_case : (i < j) ⊎ (j ≤ i) → (j < i) ⊎ (i ≤ j)
          → in_turn R total same (set (set xs i (get_or xs j d)) j (get_or xs i d)) ≡ in_turn R total same xs
      by_case (inl less) back = swap_below xs i j d less second
      by_case (inr upto) (inl less) =
          let differ : i ≢ j = λ one. (let no_way : ⊥ = omega arith in no_way) in
          ap (in_turn R total same) (set_comm xs i j (get_or xs j d) (get_or xs i d) differ)
          ∙ swap_below xs j i d less first
      by_case (inr upto) (inr back) =
          let one : i ≡ j = omega arith in
          subst (λ k. in_turn R total same (set (set xs i (get_or xs k d)) k (get_or xs i d)) ≡ in_turn R total same xs) one
          (ap (in_turn R total same) (set-set xs i (get_or xs i d) (get_or xs i d) ∙ set-get_or xs i d))

  swap_keeps : (xs : List X) (i j : ℕ) → i < length xs → j < length xs
      → in_turn R total same (swap xs i j) ≡ in_turn R total same xs
  swap_keeps [] i j first second = refl
  swap_keeps (d ∷ ys) i j first second = swap_any (d ∷ ys) i j d first second

  -- lists that hold the same elements have one order
  pub in_turn-permutation : (xs ys : List X) → IsPermutation xs ys → in_turn R total same ys ≡ in_turn R total same xs
  in_turn-permutation xs =
      IsPermutation-keeps xs (λ ys. in_turn R total same ys ≡ in_turn R total same xs) refl (λ l i j first second one. swap_keeps l i j first second ∙ one)

  -- so two lists in order that hold the same elements are one list
  pub order_is_one : (xs ys : List X) → IsPermutation xs ys → IsInOrder R xs → IsInOrder R ys → xs ≡ ys
  order_is_one xs ys permuted first second =
      sym (in_turn-in_order R total same xs first) ∙ sym (in_turn-permutation xs ys permuted)
      ∙ in_turn-in_order R total same ys second
