-- How often a name stands in a list of pending tasks, and what holds of lists in which none stands twice.
use Rattle.std.proofs.Common.{◌≡◌, refl, sym, ap, ◌∙◌, subst, zero, suc, ℕ, ◌+◌, ◌≤◌, ◌==◌, ◌&&◌, Bool, true, false}
use Rattle.std.proofs.Common.{List, [], ◌∷◌, ◌++◌, AllPairs, ◌⊎◌, inl, inr, sum_by, zero-add, slice_index_or, arith}
use Rattle.std.specs.Prelude.{IsPermutation}
use Rattle.std.specs.List.{AllByRecursion}
use Rattle.std.specs.List.Sorted.{IsSortedBy}
use Rattle.std.proofs.lemmas.Bool.Decides.{nat_tests}
use Rattle.std.proofs.lemmas.Grind.{common_steps}
use Rattle.std.proofs.lemmas.List.Elements.{All-from_recursion}
use Rattle.std.proofs.lemmas.List.Kept.{AllPairs-cons}
use Rattle.std.proofs.lemmas.List.Sorted.{IsPermutation-refl, IsPermutation-sym, IsPermutation-cons}
use Rattle.std.proofs.lemmas.List.Sorted.{IsPermutation-trans, IsPermutation-middle, sum_by-IsPermutation}
use Rattle.std.proofs.lemmas.List.Sums.{sum_by-cons}
use Rattle.task_desc.specs.declared.desc.Name.{Name}
use Rattle.spec_law.specs.serial_machine.Names.{one}
use Rattle.spec_law.specs.spec_state.declared.pending.Pending.{Pending}
use Rattle.spec_law.specs.spec_state.Pendings.{pending_before, IsBefore}

-- whether a task has a name
abbrev pub named : Name → Pending → Bool
named name p = (p.name.creator == name.creator) && (p.name.index == name.index)

-- how often a name stands in a list
abbrev pub count : Name → List Pending → ℕ
count name [] = 0
count name (p ∷ ps) = one (named name p) + count name ps

-- no name stands there twice
abbrev pub AreApart : List Pending → Type 0
AreApart ps = (name : Name) → count name ps ≤ 1

-- the task stands in the list
abbrev pub Holds : List Pending → Pending → Type 0
Holds [] p = ⊥
Holds (q ∷ qs) p = (q ≡ p) ⊎ Holds qs p

pub named_itself : (p : Pending) → named p.name p ≡ true
named_itself p = grind (arith, nat_tests, common_steps)

pub named_so : (name : Name) (p : Pending) → named name p ≡ true → p.name ≡ name
named_so name p is =
    let creator : p.name.creator ≡ name.creator = grind (arith, nat_tests, common_steps) in
    let index : p.name.index ≡ name.index = grind (arith, nat_tests, common_steps) in
    λ i. record { creator = creator i; index = index i }

summed : (name : Name) (ps : List Pending) → sum_by (λ p. one (named name p)) ps ≡ count name ps
summed name [] = refl
summed name (p ∷ ps) = sum_by-cons (λ q. one (named name q)) p ps ∙ ap (λ n. one (named name p) + n) (summed name ps)

-- a list in another order holds a name as often
pub count-permutation : (name : Name) (ps qs : List Pending) → IsPermutation ps qs → count name qs ≡ count name ps
count-permutation name ps qs moved =
    sym (summed name qs) ∙ sum_by-IsPermutation (λ p. one (named name p)) ps qs moved ∙ summed name ps

pub count-append : (name : Name) (ps qs : List Pending) → count name (ps ++ qs) ≡ count name ps + count name qs
count-append name [] qs = sym (zero-add (count name qs))
count-append name (p ∷ ps) qs = let rest = count-append name ps qs in omega (arith, rest)

pub held_counts : (ps : List Pending) (p : Pending) → Holds ps p → 1 ≤ count p.name ps
held_counts [] p held = absurd held
held_counts (q ∷ qs) p (inl same) =
    let is : named p.name q ≡ true = ap (λ n. named n q) (sym (ap (λ (x : Pending). x.name) same)) ∙ named_itself q in
    let here : one (named p.name q) ≡ 1 = ap one is in
    omega (arith, here)
held_counts (q ∷ qs) p (inr held) = let rest = held_counts qs p held in omega (arith, rest)

-- ---- sorted

none_named : (name : Name) (ps : List Pending) → count name ps ≡ 0 → AllByRecursion (λ q. named name q ≡ false) ps
none_named name [] none = tt
none_named name (q ∷ qs) none = go (named name q) refl none (none_named name qs)
  where
    go : (b : Bool) → named name q ≡ b → one b + count name qs ≡ 0
        → (count name qs ≡ 0 → AllByRecursion (λ x. named name x ≡ false) qs)
        → (named name q ≡ false) × AllByRecursion (λ x. named name x ≡ false) qs
    go true is zero_all rest = absurd (omega (arith, zero_all))
    go false is zero_all rest = (is, rest (omega (arith, zero_all)))

-- without its first a sorted list is sorted
tail_sorted : (p : Pending) (ps : List Pending) → IsSortedBy pending_before (p ∷ ps) → IsSortedBy pending_before ps
tail_sorted p ps sorted = λ k d low high.
    let next : suc k + 1 ≡ suc (k + 1) = omega arith in
    subst (λ n. pending_before (slice_index_or (p ∷ ps) n d) (slice_index_or ps k d) ≡ false) next (sorted (suc k) d (omega arith) (omega (arith, high)))

-- none comes before the first of a sorted list
none_before : (p : Pending) (ps : List Pending) → IsSortedBy pending_before (p ∷ ps)
    → AllByRecursion (λ q. pending_before q p ≡ false) ps
none_before p [] sorted = tt
none_before p (q ∷ qs) sorted = (first, further first qs (none_before q qs (tail_sorted p (q ∷ qs) sorted)))
  where
    first : pending_before q p ≡ false
    first = sorted zero p (omega arith) (omega arith)

    further : pending_before q p ≡ false → (rs : List Pending) → AllByRecursion (λ r. pending_before r q ≡ false) rs
        → AllByRecursion (λ r. pending_before r p ≡ false) rs
    further one_step [] each = tt
    further one_step (r ∷ rs) each = (over one_step each.0, further one_step rs each.1)
      where
        over : pending_before q p ≡ false → pending_before r q ≡ false → pending_before r p ≡ false
        over first_two last_two = grind (arith, nat_tests, common_steps)

-- what isn't before another, nor has its name, is behind it
behind_each : (p : Pending) (ps : List Pending) → AllByRecursion (λ q. pending_before q p ≡ false) ps
    → AllByRecursion (λ q. named p.name q ≡ false) ps → AllByRecursion (IsBefore p) ps
behind_each p [] order names = tt
behind_each p (q ∷ qs) order names = (go order.0 names.0, behind_each p qs order.1 names.1)
  where
    go : pending_before q p ≡ false → named p.name q ≡ false → pending_before p q ≡ true
    go not_before other = grind (arith, nat_tests, common_steps)

none_left : (p : Pending) (ps : List Pending) → AreApart (p ∷ ps) → count p.name ps ≡ 0
none_left p ps few =
    let one_here : one (named p.name p) ≡ 1 = ap one (named_itself p) in
    let upto = few p.name in
    omega (arith, one_here, upto)

tail_apart : (p : Pending) (ps : List Pending) → AreApart (p ∷ ps) → AreApart ps
tail_apart p ps few name = let upto = few name in omega (arith, upto)

-- a sorted list in which no name stands twice is in strict order
pub strictly : (ps : List Pending) → IsSortedBy pending_before ps → AreApart ps → AllPairs IsBefore ps
strictly [] sorted few = λ i j d before inside. absurd (omega (arith, inside))
strictly (p ∷ ps) sorted few =
    AllPairs-cons IsBefore p ps
    (All-from_recursion (IsBefore p) ps (behind_each p ps (none_before p ps sorted) (none_named p.name ps (none_left p ps few))))
    (strictly ps (tail_sorted p ps sorted) (tail_apart p ps few))

-- ---- the same tasks

-- the task stands behind these and before those
record IsParted (qs : List Pending) (p : Pending) : Type 0 where
  pub front : List Pending
  pub back : List Pending
  pub is : qs ≡ front ++ p ∷ back

split_at : (qs : List Pending) (p : Pending) → Holds qs p → IsParted qs p
split_at [] p held = absurd held
split_at (q ∷ qs) p (inl same) = record { front = []; back = qs; is = ap (λ x. x ∷ qs) same }
split_at (q ∷ qs) p (inr held) =
    let rest = split_at qs p held in
    record { front = q ∷ rest.front; back = rest.back; is = ap (λ xs. q ∷ xs) rest.is }

held_without : (front back : List Pending) (p r : Pending) → Holds (front ++ p ∷ back) r
    → (p ≡ r) ⊎ Holds (front ++ back) r
held_without [] back p r held = held
held_without (q ∷ qs) back p r (inl same) = inr (inl same)
held_without (q ∷ qs) back p r (inr held) = elim (held_without qs back p r held) [
  | inl same ↦ inl same
  | inr other ↦ inr (inr other)
]

held_with : (front back : List Pending) (p r : Pending) → Holds (front ++ back) r → Holds (front ++ p ∷ back) r
held_with [] back p r held = inr held
held_with (q ∷ qs) back p r (inl same) = inl same
held_with (q ∷ qs) back p r (inr held) = inr (held_with qs back p r held)

count_without : (name : Name) (front back : List Pending) (p : Pending)
    → count name (front ++ p ∷ back) ≡ one (named name p) + count name (front ++ back)
count_without name front back p =
    let long = count-append name front (p ∷ back) in
    let short = count-append name front back in
    omega (arith, long, short)

-- two lists that hold the same tasks, in neither of which a name stands twice, are one list but for the order
pub permuted : (ps qs : List Pending) → AreApart ps → AreApart qs → ((p : Pending) → Holds ps p → Holds qs p)
    → ((p : Pending) → Holds qs p → Holds ps p)
    → IsPermutation ps qs
permuted [] [] first second there back = IsPermutation-refl []
permuted [] (q ∷ qs) first second there back = absurd (back q (inl refl))
permuted (p ∷ ps) qs first second there back = go (split_at qs p (there p (inl refl))) (permuted ps)
  where
    go : IsParted qs p
        → ((rs : List Pending) → AreApart ps → AreApart rs → ((r : Pending) → Holds ps r → Holds rs r) → ((r : Pending) → Holds rs r → Holds ps r) → IsPermutation ps rs)
        → IsPermutation (p ∷ ps) qs
    go split rest =
        let middle = IsPermutation-middle split.front p split.back in
        subst (IsPermutation (p ∷ ps)) (sym split.is)
        (IsPermutation-trans (p ∷ ps) (p ∷ (split.front ++ split.back)) (split.front ++ p ∷ split.back)
        (IsPermutation-cons p ps (split.front ++ split.back) (rest (split.front ++ split.back) (tail_apart p ps first) fewer onward backward))
        (IsPermutation-sym (split.front ++ p ∷ split.back) (p ∷ (split.front ++ split.back)) middle))
      where
        apart_here : AreApart (split.front ++ p ∷ split.back)
        apart_here = subst AreApart split.is second

        fewer : AreApart (split.front ++ split.back)
        fewer name =
            let upto = apart_here name in
            let without = count_without name split.front split.back p in
            omega (arith, upto, without)

        onward : (r : Pending) → Holds ps r → Holds (split.front ++ split.back) r
        onward r held =
            elim (held_without split.front split.back p r (subst (λ xs. Holds xs r) split.is (there r (inr held)))) [
              | inl same ↦
                  let some = held_counts ps p (subst (Holds ps) (sym same) held) in
                  let none = none_left p ps first in
                  absurd (omega (arith, some, none))
              | inr other ↦ other
            ]

        backward : (r : Pending) → Holds (split.front ++ split.back) r → Holds ps r
        backward r held =
            by (back r (subst (λ xs. Holds xs r) (sym split.is) (held_with split.front split.back p r held)))
          where
            by : Holds (p ∷ ps) r → Holds ps r
            by (inl same) =
                let some = held_counts (split.front ++ split.back) p (subst (Holds (split.front ++ split.back)) (sym same) held) in
                let here : one (named p.name p) ≡ 1 = ap one (named_itself p) in
                let upto = apart_here p.name in
                let without = count_without p.name split.front split.back p in
                absurd (omega (arith, some, here, upto, without))
            by (inr kept) = kept
