-- Candidates in the slots of a table: what an edit of the slots' order leaves.
use Rattle.std.proofs.Common.{◌≡◌, ◌≢◌, ℕ, ◌-◌, ◌<◌, ◌≤◌, false, nat_eq, List, [], ◌∷◌, ◌++◌, length, get_or, set, take}
use Rattle.std.proofs.Common.{refl, sym, ap, subst, ◌∙◌, arith}
use Rattle.std.specs.List.{All, IsDistinct, AllByRecursion, insert}
use Rattle.std.specs.List.Sorted.{IsPermutation}
use Rattle.std.proofs.lemmas.List.{map-append, get_or-set_same, get_or-set_other, length-set, length-map, length-append}
use Rattle.std.proofs.lemmas.List.Edits.{length-insert, insert_end}
use Rattle.std.proofs.Math.Seq.{take-append_seam}
use Rattle.std.proofs.lemmas.List.Elements.{All-head}
use Rattle.std.proofs.lemmas.List.Sorted.{IsPermutation-to_front, IsPermutation-trans, IsPermutation-sym}
use Rattle.std.proofs.lemmas.List.Sorted.{IsPermutation-append_left, All-permutation}
use Rattle.std.proofs.lemmas.Map.Keys.{IsDistinct-IsPermutation, IsDistinct-head}
use Rattle.std.proofs.lemmas.Cmp.{nat_eq_equiv}
use Rattle.std.proofs.lemmas.Bool.Decides.{nat_tests}
use Rattle.commit_arbiter.specs.declared.candidate.Candidate.{Candidate}
use Rattle.commit_arbiter.specs.Slots.{blank_candidate, in_slots, IsSlotted}
use Rattle.fractal_vt.proofs.Proved.{map-insert, All-front, inserted_front, last_front}

-- a write to a slot that is not among them changes no candidate
pub in_slots-set : (table : List Candidate) (slot : ℕ) (e : Candidate) (slots : List ℕ)
    → AllByRecursion (λ other. nat_eq slot other ≡ false) slots
    → in_slots (set table slot e) slots ≡ in_slots table slots
in_slots-set table slot e [] other = refl
in_slots-set table slot e (s ∷ slots) other =
    let differs : s ≢ slot = λ same. differ s same other.0 in
    (λ i. get_or-set_other table slot s e blank_candidate differs i ∷ in_slots-set table slot e slots other.1 i)
  where
    differ : (s : ℕ) → s ≡ slot → nat_eq slot s ≡ false → ⊥
    differ s same not = grind (arith, nat_tests)

module _ (table : List Candidate) (order free : List ℕ) (slot : ℕ) (order_capacity free_capacity : ℕ) (is : IsSlotted table order (free ++ slot ∷ []) order_capacity free_capacity) where
  front : IsDistinct nat_eq (slot ∷ (order ++ free))
  front =
      IsDistinct-IsPermutation nat_eq nat_eq_equiv.symm (order ++ (free ++ slot ∷ [])) (slot ∷ (order ++ free)) (last_front order free slot) is.distinct

  inside_all : All (λ s. s < length table) (slot ∷ (order ++ free))
  inside_all =
      All-permutation (λ s. s < length table) (order ++ (free ++ slot ∷ [])) (slot ∷ (order ++ free)) (last_front order free slot) is.within

  pub slot_inside : slot < length table
  slot_inside = All-head (λ s. s < length table) slot (order ++ free) inside_all

  inserted_candidates : (e : Candidate) (place : ℕ)
      → in_slots (set table slot e) (insert order place slot) ≡ insert (in_slots table order) place e
  inserted_candidates e place =
      let others = in_slots-set table slot e order (All-front (λ s. nat_eq slot s ≡ false) order free (IsDistinct-head nat_eq slot (order ++ free) front)) in
      map-insert (λ s. get_or (set table slot e) s blank_candidate) order place slot
      ∙ ap (insert (in_slots (set table slot e) order) place) (get_or-set_same table slot e blank_candidate slot_inside)
      ∙ ap (λ xs. insert xs place e) others

  -- the candidates after the last free slot is written and comes to the order's end
  pub candidates_pushed : (e : Candidate)
      → in_slots (set table slot e) (order ++ slot ∷ []) ≡ in_slots table order ++ e ∷ []
  candidates_pushed e =
      ap (in_slots (set table slot e)) (sym (insert_end order slot))
      ∙ inserted_candidates e (length order)
      ∙ ap (λ n. insert (in_slots table order) n e) (sym (length-map order (λ s. get_or table s blank_candidate)))
      ∙ insert_end (in_slots table order) e

  inserted_slotted : (e : Candidate) (place order_after free_after : ℕ) → place ≤ length order
      → order_capacity ≤ order_after → free_capacity ≤ free_after
      → IsSlotted (set table slot e) (insert order place slot) free order_after free_after
  inserted_slotted e place order_after free_after upto more less =
      let long = length-set table slot e in
      let one_more = length-insert order place slot upto in
      let one_less = length-append free (slot ∷ []) in
      let all = is.all in
      record {
        distinct =
            IsDistinct-IsPermutation nat_eq nat_eq_equiv.symm (slot ∷ (order ++ free)) (insert order place slot ++ free) (inserted_front order free slot place upto) front;
        within =
            subst (λ n. All (λ s. s < n) (insert order place slot ++ free)) (sym long) (All-permutation (λ s. s < length table) (slot ∷ (order ++ free)) (insert order place slot ++ free) (inserted_front order free slot place upto) inside_all);
        all = omega arith;
        order_holds = (let holds = is.order_holds in omega arith);
        free_holds = (let holds = is.free_holds in omega arith);
      }

  pub slotted_pushed : (e : Candidate) (order_after free_after : ℕ) → order_capacity ≤ order_after
      → free_capacity ≤ free_after → IsSlotted (set table slot e) (order ++ slot ∷ []) free order_after free_after
  slotted_pushed e order_after free_after more less =
      subst (λ slots. IsSlotted (set table slot e) slots free order_after free_after) (insert_end order slot)
      (inserted_slotted e (length order) order_after free_after (omega arith) more less)

-- the order's last slot goes to the free ones
module _ (table : List Candidate) (front free : List ℕ) (slot : ℕ) (order_capacity free_capacity : ℕ) (is : IsSlotted table (front ++ slot ∷ []) free order_capacity free_capacity) where
  slots_moved : IsPermutation ((front ++ slot ∷ []) ++ free) (front ++ (free ++ slot ∷ []))
  slots_moved =
      IsPermutation-trans ((front ++ slot ∷ []) ++ free) (slot ∷ (front ++ free)) (front ++ (free ++ slot ∷ []))
      (IsPermutation-append_left free (front ++ slot ∷ []) (slot ∷ front) (IsPermutation-to_front front slot))
      (IsPermutation-sym (front ++ (free ++ slot ∷ [])) (slot ∷ (front ++ free)) (last_front front free slot))

  pub slotted_popped : (order_after free_after : ℕ) → order_capacity ≤ order_after → free_capacity ≤ free_after
      → IsSlotted table front (free ++ slot ∷ []) order_after free_after
  slotted_popped order_after free_after more less =
      let one_less = length-append front (slot ∷ []) in
      let one_more = length-append free (slot ∷ []) in
      let all = is.all in
      record {
        distinct =
            IsDistinct-IsPermutation nat_eq nat_eq_equiv.symm ((front ++ slot ∷ []) ++ free) (front ++ (free ++ slot ∷ [])) slots_moved is.distinct;
        within =
            All-permutation (λ s. s < length table) ((front ++ slot ∷ []) ++ free) (front ++ (free ++ slot ∷ [])) slots_moved is.within;
        all = omega arith;
        order_holds = (let holds = is.order_holds in omega arith);
        free_holds = (let holds = is.free_holds in omega arith);
      }

take_front : {X : Type 0} (xs : List X) (y : X) → take (length (xs ++ y ∷ []) - 1) (xs ++ y ∷ []) ≡ xs
take_front xs y =
    ap (λ n. take n (xs ++ y ∷ [])) (let long = length-append xs (y ∷ []) in omega arith) ∙ take-append_seam xs (y ∷ [])

pub candidates_popped : (table : List Candidate) (order front : List ℕ) (slot : ℕ) → order ≡ front ++ slot ∷ []
    → in_slots table front ≡ take (length (in_slots table order) - 1) (in_slots table order)
candidates_popped table order front slot is =
    let f : ℕ → Candidate = λ s. get_or table s blank_candidate in
    let parts : in_slots table order ≡ in_slots table front ++ f slot ∷ [] = ap (in_slots table) is ∙ map-append f front (slot ∷ []) in
    sym (take_front (in_slots table front) (f slot)) ∙ ap (λ es. take (length es - 1) es) (sym parts)

-- a place among the candidates is one in the order
pub place_within : (table : List Candidate) (order : List ℕ) (candidates : List Candidate) (place : ℕ)
    → in_slots table order ≡ candidates → place < length candidates → place < length order
place_within table order candidates place same inside =
    let long = length-map order (λ slot. get_or table slot blank_candidate) in
    let as_long = ap length same in
    omega arith
