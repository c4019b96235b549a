-- Two lists of pending tasks, each sorted by the tasks' names, that hold the same tasks are one list; permuted lists
-- hold the same tasks.
use Rattle.std.proofs.Common.{◌≡◌, refl, sym, ap, ◌∙◌, subst, zero, suc, true, false, List, [], ◌∷◌, Contains, AllPairs}
use Rattle.std.proofs.Common.{IsPermutation, ◌⊎◌, inl, inr, arith}
use Rattle.std.specs.List.{AllByRecursion}
use Rattle.std.proofs.lemmas.Bool.Decides.{nat_tests}
use Rattle.std.proofs.lemmas.Grind.{common_steps}
use Rattle.std.proofs.lemmas.List.Sorted.{Contains-permutation}
use Rattle.std.proofs.lemmas.List.Elements.{recursion_from_All}
use Rattle.conflict_book.specs.spec_state.declared.pending.Pending.{Pending}
use Rattle.conflict_book.specs.spec_state.Pendings.{IsBefore}
use Rattle.conflict_book.proofs.Below.pending_law.Proved.{Holds}

-- sorted by names: each task stands before those behind it
abbrev pub AreInOrder : List Pending → Type 0
AreInOrder [] = Unit {0}
AreInOrder (p ∷ ps) = AllByRecursion (IsBefore p) ps × AreInOrder ps

pub in_order : (ps : List Pending) → AllPairs IsBefore ps → AreInOrder ps
in_order [] sorted = tt
in_order (p ∷ ps) sorted = (
  recursion_from_All (IsBefore p) ps (λ k d inside. sorted zero (suc k) d (omega arith) (omega arith)),
  in_order ps (λ i j d before inside. sorted (suc i) (suc j) d (omega arith) (omega arith)),
)

holds_contained : (ps : List Pending) (p : Pending) → Contains ps p → Holds ps p
holds_contained [] p (k, inside, is) = absurd (omega arith)
holds_contained (q ∷ qs) p (zero, inside, is) = inl is
holds_contained (q ∷ qs) p (suc k, inside, is) = inr (holds_contained qs p (k, omega arith, is))

contains_held : (ps : List Pending) (p : Pending) → Holds ps p → Contains ps p
contains_held [] p held = absurd held
contains_held (q ∷ qs) p (inl same) = (zero, omega arith, same)
contains_held (q ∷ qs) p (inr held) = (let at = contains_held qs p held in (suc at.0, omega (arith, at.1), at.2))

pub holds_permuted : (ps qs : List Pending) (p : Pending) → IsPermutation ps qs → Holds ps p → Holds qs p
holds_permuted ps qs p permuted held =
    holds_contained qs p (Contains-permutation ps qs p permuted (contains_held ps p held))

before_held : (p q : Pending) (ps : List Pending) → AllByRecursion (IsBefore p) ps → Holds ps q → IsBefore p q
before_held p q [] each held = absurd held
before_held p q (r ∷ rs) each (inl same) = subst (IsBefore p) same each.0
before_held p q (r ∷ rs) each (inr held) = before_held p q rs each.1 held

never_both : (p q : Pending) → IsBefore p q → IsBefore q p → ⊥
never_both p q one other =
    let no_way : true ≡ false = sym one ∙ grind (arith, nat_tests, common_steps, other) in
    absurd (cc (no_way))

-- one list is the other where each holds what the other holds
pub one_list : (ps qs : List Pending) → AreInOrder ps → AreInOrder qs → ((p : Pending) → Holds ps p → Holds qs p)
    → ((p : Pending) → Holds qs p → Holds ps p)
    → ps ≡ qs
one_list [] [] first second there back = refl
one_list [] (q ∷ qs) first second there back = absurd (back q (inl refl))
one_list (p ∷ ps) [] first second there back = absurd (there p (inl refl))
one_list (p ∷ ps) (q ∷ qs) first second there back =
    let head : p ≡ q = heads (there p (inl refl)) (back q (inl refl)) in
    ap (λ x. x ∷ ps) head ∙ ap (λ xs. q ∷ xs) (one_list ps qs first.1 second.1 (onward head) (backward head))
  where
    heads : Holds (q ∷ qs) p → Holds (p ∷ ps) q → p ≡ q
    heads (inl same) other = sym same
    heads (inr held) (inl same) = same
    heads (inr held) (inr kept) =
        absurd (never_both p q (before_held p q ps first.0 kept) (before_held q p qs second.0 held))

    onward : p ≡ q → (r : Pending) → Holds ps r → Holds qs r
    onward head r held = go (there r (inr held))
      where
        go : Holds (q ∷ qs) r → Holds qs r
        go (inl same) =
            let itself : IsBefore p p = subst (IsBefore p) (sym (head ∙ same)) (before_held p r ps first.0 held) in
            absurd (never_both p p itself itself)
        go (inr kept) = kept

    backward : p ≡ q → (r : Pending) → Holds qs r → Holds ps r
    backward head r held = go (back r (inr held))
      where
        go : Holds (p ∷ ps) r → Holds ps r
        go (inl same) =
            let itself : IsBefore q q = subst (IsBefore q) (sym (sym head ∙ same)) (before_held q r qs second.0 held) in
            absurd (never_both q q itself itself)
        go (inr kept) = kept
