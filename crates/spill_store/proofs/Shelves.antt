-- Spilled tasks at places: what an edit of the places' order leaves.
use Rattle.std.proofs.Common.{◌≡◌, ◌≢◌, ℕ, zero, suc, ◌+◌, ◌<◌, ◌≤◌, false, nat_eq, List, [], ◌∷◌, ◌++◌, length, get_or}
use Rattle.std.proofs.Common.{set, map, refl, sym, ap, subst, ◌∙◌, arith}
use Rattle.std.specs.List.{All, IsDistinct, AllByRecursion, insert}
use Rattle.std.specs.List.Sorted.{IsPermutation}
use Rattle.std.proofs.lemmas.List.{append-nil, get_or-set_same, get_or-set_other, length-set, length-map, length-append}
use Rattle.std.proofs.lemmas.List.Edits.{length-insert}
use Rattle.std.proofs.lemmas.List.Elements.{All-head, All-tail}
use Rattle.std.proofs.lemmas.List.Sorted.{IsPermutation-insert, IsPermutation-sym, All-permutation}
use Rattle.std.proofs.lemmas.Map.Keys.{IsDistinct-IsPermutation, IsDistinct-head, IsDistinct-cons}
use Rattle.std.proofs.lemmas.Cmp.{nat_eq_equiv}
use Rattle.std.proofs.lemmas.Bool.Decides.{nat_tests}
use Rattle.spill_store.specs.SpilledTasks.{Spilled, renumbered_spilled}
use Rattle.spill_store.specs.Shelved.{blank_spilled, at_places, IsShelved}
use Rattle.fractal_vt.proofs.Proved.{map-insert, All-front, inserted_front, last_front}

-- a write to a place that is not among them changes no task
places-set : (kept : List Spilled) (place : ℕ) (e : Spilled) (places : List ℕ)
    → AllByRecursion (λ other. nat_eq place other ≡ false) places
    → at_places (set kept place e) places ≡ at_places kept places
places-set kept place e [] other = refl
places-set kept place e (p ∷ places) other =
    let differs : p ≢ place = λ same. differ p same other.0 in
    (λ i. get_or-set_other kept place p e blank_spilled differs i ∷ places-set kept place e places other.1 i)
  where
    differ : (p : ℕ) → p ≡ place → nat_eq place p ≡ false → ⊥
    differ p same not = grind (arith, nat_tests)

-- one task more at the end changes none of the others
places-append : (kept : List Spilled) (e : Spilled) (places : List ℕ) → All (λ p. p < length kept) places
    → at_places (kept ++ e ∷ []) places ≡ at_places kept places
places-append kept e [] inside = refl
places-append kept e (p ∷ places) inside =
    (λ i. first kept p (All-head (λ q. q < length kept) p places inside) i ∷ places-append kept e places (All-tail (λ q. q < length kept) p places inside) i)
  where
    first : (kept : List Spilled) (p : ℕ) → p < length kept
        → get_or (kept ++ e ∷ []) p blank_spilled ≡ get_or kept p blank_spilled
    first [] p less = absurd (omega arith)
    first (x ∷ kept) zero less = refl
    first (x ∷ kept) (suc p) less = first kept p (omega arith)

last_there : (kept : List Spilled) (e : Spilled) → get_or (kept ++ e ∷ []) (length kept) blank_spilled ≡ e
last_there [] e = refl
last_there (x ∷ kept) e = last_there kept e

above_all : (n : ℕ) (xs : List ℕ) → All (λ x. x < n) xs → AllByRecursion (λ x. nat_eq n x ≡ false) xs
above_all n [] all = tt
above_all n (x ∷ xs) all = (differ x (All-head (λ y. y < n) x xs all), above_all n xs (All-tail (λ y. y < n) x xs all))
  where
    differ : (x : ℕ) → x < n → nat_eq n x ≡ false
    differ x less = grind (arith, nat_tests)

abbrev Below : List Spilled → ℕ → Type 0
Below kept p = p < length kept

-- nothing is kept
pub none_shelved : (order_capacity kept_capacity free_capacity : ℕ)
    → IsShelved [] [] [] 0 order_capacity kept_capacity free_capacity
unfolding IsDistinct
none_shelved order_capacity kept_capacity free_capacity = record {
  distinct = tt;
  within = λ k d inside. absurd (omega arith);
  all = refl;
  holds = omega arith;
  few = omega arith;
  order_holds = omega arith;
  kept_holds = omega arith;
  free_holds = omega arith;
}

-- the last free place comes into the order
module _ (kept : List Spilled) (order free : List ℕ) (place capacity order_capacity kept_capacity free_capacity : ℕ) (is : IsShelved kept order (free ++ place ∷ []) capacity order_capacity kept_capacity free_capacity) where
  front : IsDistinct nat_eq (place ∷ (order ++ free))
  front =
      IsDistinct-IsPermutation nat_eq nat_eq_equiv.symm (order ++ (free ++ place ∷ [])) (place ∷ (order ++ free)) (last_front order free place) is.distinct

  inside_all : All (Below kept) (place ∷ (order ++ free))
  inside_all =
      All-permutation (Below kept) (order ++ (free ++ place ∷ [])) (place ∷ (order ++ free)) (last_front order free place) is.within

  pub place_inside : place < length kept
  place_inside = All-head (Below kept) place (order ++ free) inside_all

  pub reused_tasks : (e : Spilled) (at : ℕ)
      → at_places (set kept place e) (insert order at place) ≡ insert (at_places kept order) at e
  reused_tasks e at =
      let others = places-set kept place e order (All-front (λ p. nat_eq place p ≡ false) order free (IsDistinct-head nat_eq place (order ++ free) front)) in
      map-insert (λ p. get_or (set kept place e) p blank_spilled) order at place
      ∙ ap (insert (at_places (set kept place e) order) at) (get_or-set_same kept place e blank_spilled place_inside)
      ∙ ap (λ xs. insert xs at e) others

  pub reused_shelved : (e : Spilled) (at more_order more_free : ℕ) → at ≤ length order → order_capacity ≤ more_order
      → free_capacity ≤ more_free
      → IsShelved (set kept place e) (insert order at place) free capacity more_order kept_capacity more_free
  reused_shelved e at more_order more_free upto one two =
      let long = length-set kept place e in
      let one_more = length-insert order at place upto in
      let one_less = length-append free (place ∷ []) in
      let all = is.all in
      record {
        distinct =
            IsDistinct-IsPermutation nat_eq nat_eq_equiv.symm (place ∷ (order ++ free)) (insert order at place ++ free) (inserted_front order free place at upto) front;
        within =
            subst (λ n. All (λ p. p < n) (insert order at place ++ free)) (sym long) (All-permutation (Below kept) (place ∷ (order ++ free)) (insert order at place ++ free) (inserted_front order free place at upto) inside_all);
        all = omega arith;
        holds = (let holds = is.holds in omega arith);
        few = is.few;
        order_holds = (let holds = is.order_holds in omega arith);
        kept_holds = is.kept_holds;
        free_holds = (let holds = is.free_holds in omega arith);
      }

-- a new place comes into the order
module _ (kept : List Spilled) (order : List ℕ) (capacity order_capacity kept_capacity free_capacity : ℕ) (is : IsShelved kept order [] capacity order_capacity kept_capacity free_capacity) where
  used : All (Below kept) order
  used = subst (All (Below kept)) (append-nil order) is.within

  pub added_tasks : (e : Spilled) (at : ℕ)
      → at_places (kept ++ e ∷ []) (insert order at (length kept)) ≡ insert (at_places kept order) at e
  added_tasks e at =
      map-insert (λ p. get_or (kept ++ e ∷ []) p blank_spilled) order at (length kept)
      ∙ ap (insert (at_places (kept ++ e ∷ []) order) at) (last_there kept e)
      ∙ ap (λ xs. insert xs at e) (places-append kept e order used)

  pub added_shelved : (e : Spilled) (at more_order more_kept : ℕ) → at ≤ length order → length order < capacity
      → order_capacity ≤ more_order → kept_capacity ≤ more_kept
      → IsShelved (kept ++ e ∷ []) (insert order at (length kept)) [] capacity more_order more_kept free_capacity
  added_shelved e at more_order more_kept upto spare one two =
      let long = length-append kept (e ∷ []) in
      let one_more = length-insert order at (length kept) upto in
      let all = is.all in
      let new = length kept in
      let front : IsDistinct nat_eq (new ∷ order) = IsDistinct-cons nat_eq new order (above_all new order used) (subst (IsDistinct nat_eq) (append-nil order) is.distinct) in
      let moved : IsPermutation (new ∷ order) (insert order at new ++ []) = subst (IsPermutation (new ∷ order)) (sym (append-nil (insert order at new))) (IsPermutation-insert order at new) in
      record {
        distinct =
            IsDistinct-IsPermutation nat_eq nat_eq_equiv.symm (new ∷ order) (insert order at new ++ []) moved front;
        within =
            subst (λ n. All (λ p. p < n) (insert order at new ++ [])) (sym long) (All-permutation (λ p. p < new + 1) (new ∷ order) (insert order at new ++ []) moved below);
        all = omega arith;
        holds = omega arith;
        few = is.few;
        order_holds = (let holds = is.order_holds in omega arith);
        kept_holds = (let holds = is.kept_holds in omega arith);
        free_holds = is.free_holds;
      }
    where
      below : All (λ p. p < length kept + 1) (length kept ∷ order)
      below =
          Rattle.std.proofs.lemmas.List.Elements.All-cons (λ p. p < length kept + 1) (length kept) order (omega arith) (λ k d inside. (let less = used k d inside in omega arith))

-- the order's first place goes to the free ones
pub first_shelved : (kept : List Spilled) (order free : List ℕ) (place capacity order_capacity kept_capacity free_capacity more_order more_free : ℕ)
    → IsShelved kept (place ∷ order) free capacity order_capacity kept_capacity free_capacity
    → order_capacity ≤ more_order → free_capacity ≤ more_free
    → IsShelved kept order (free ++ place ∷ []) capacity more_order kept_capacity more_free
first_shelved kept order free place capacity order_capacity kept_capacity free_capacity more_order more_free is one two =
    let back : IsPermutation (place ∷ (order ++ free)) (order ++ (free ++ place ∷ [])) = IsPermutation-sym (order ++ (free ++ place ∷ [])) (place ∷ (order ++ free)) (last_front order free place) in
    let long = length-append free (place ∷ []) in
    let all = is.all in
    record {
      distinct =
          IsDistinct-IsPermutation nat_eq nat_eq_equiv.symm (place ∷ (order ++ free)) (order ++ (free ++ place ∷ [])) back is.distinct;
      within = All-permutation (Below kept) (place ∷ (order ++ free)) (order ++ (free ++ place ∷ [])) back is.within;
      all = omega arith;
      holds = is.holds;
      few = is.few;
      order_holds = (let holds = is.order_holds in omega arith);
      kept_holds = is.kept_holds;
      free_holds = (let holds = is.free_holds in omega arith);
    }

-- the tasks renumbered by a table
get_renumbered : (table : List ℕ) (kept : List Spilled) (k : ℕ)
    → get_or (map (renumbered_spilled table) kept) k blank_spilled ≡ renumbered_spilled table (get_or kept k blank_spilled)
get_renumbered table [] k = refl
get_renumbered table (e ∷ kept) zero = refl
get_renumbered table (e ∷ kept) (suc k) = get_renumbered table kept k

pub places_renumbered : (table : List ℕ) (kept : List Spilled) (places : List ℕ)
    → at_places (map (renumbered_spilled table) kept) places ≡ map (renumbered_spilled table) (at_places kept places)
places_renumbered table kept [] = refl
places_renumbered table kept (p ∷ places) = λ i. get_renumbered table kept p i ∷ places_renumbered table kept places i

-- a place of the list is one of the order
pub within_order : (kept : List Spilled) (order : List ℕ) (tasks : List Spilled) (at : ℕ) → at_places kept order ≡ tasks
    → at ≤ length tasks → at ≤ length order
within_order kept order tasks at same inside =
    let long = length-map order (λ place. get_or kept place blank_spilled) in
    let as_long = ap length same in
    omega arith
