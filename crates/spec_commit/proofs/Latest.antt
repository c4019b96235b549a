-- The latest of a kind, and one more of it.
use Rattle.std.proofs.Common.{◌≡◌, ◌⊎◌, ◌<◌, ◌≤◌, ◌+◌, ◌-◌, ◌∷◌, ◌++◌, ℕ, zero, suc, List, [], length, take, drop, Some}
use Rattle.std.proofs.Common.{refl, sym, ap, subst, ◌∙◌, inl, inr, arith, slice_get, slice_index_or}
use Rattle.std.specs.Prelude.{All, AllPairs, Contains}
use Rattle.std.specs.List.{insert}
use Rattle.std.proofs.lemmas.Bool.{cases_eq, cases_lt}
use Rattle.std.proofs.lemmas.List.{take-append-drop}
use Rattle.std.proofs.lemmas.List.Elements.{All-contains, All-contains_itself, Contains-append_left}
use Rattle.std.proofs.lemmas.List.Elements.{Contains-append_right, Contains-append_cases}
use Rattle.std.proofs.lemmas.List.Kept.{AllPairs-cons}
use Rattle.fractal_vt.proofs.Proved.{AllPairs-head, AllPairs-tail}
use Rattle.spec_state.specs.declared.reserving.TheConstants.{MAX_MOVED}
use Rattle.spec_state.proofs.Proved.{has_head, head_or_tail, in_tail}
use Rattle.std.proofs.lemmas.Option.{slice_get_within, get_or_from_slice_get, slice_get-get_or}
use Rattle.spec_commit.specs.Latest.{AreLatest, with_one}

-- what holds of each that a list contains holds of all
all_of : (P : ℕ → Type 0) (xs : List ℕ) → ((y : ℕ) → Contains xs y → P y) → All P xs
all_of P xs each k d within = each _ (All-contains_itself xs k d within)

-- a list with one more in its midst contains that one, and what it contained
in_midst : (a b : List ℕ) (x y : ℕ) → Contains (a ++ b) y → Contains (a ++ x ∷ b) y
in_midst a b x y has = elim (Contains-append_cases a b y has) [
  | inl left ↦ Contains-append_left a (x ∷ b) y left
  | inr right ↦ Contains-append_right a (x ∷ b) y (in_tail x b y right)
]

is_midst : (a b : List ℕ) (x : ℕ) → Contains (a ++ x ∷ b) x
is_midst a b x = Contains-append_right a (x ∷ b) x (has_head x b)

midst_cases : (a b : List ℕ) (x y : ℕ) → Contains (a ++ x ∷ b) y → Contains (a ++ b) y ⊎ (x ≡ y)
midst_cases a b x y has = elim (Contains-append_cases a (x ∷ b) y has) [
  | inl left ↦ inl (Contains-append_left a b y left)
  | inr right ↦ elim (head_or_tail x b y right) [ inl same ↦ inr same | inr tail ↦ inl (Contains-append_right a b y tail) ]
]

-- it stays in order
pairs_midst : (R : ℕ → ℕ → Type 0) (a b : List ℕ) (x : ℕ) → AllPairs R (a ++ b) → ((y : ℕ) → Contains a y → R y x)
    → ((y : ℕ) → Contains b y → R x y) → AllPairs R (a ++ x ∷ b)
pairs_midst R [] b x pairs lower upper = AllPairs-cons R x b (all_of (R x) b upper) pairs
pairs_midst R (h ∷ t) b x pairs lower upper =
    AllPairs-cons R h (t ++ x ∷ b)
    (all_of (R h) (t ++ x ∷ b) (λ y has. elim (midst_cases t b x y has) [
      | inl was ↦ All-contains (R h) (t ++ b) y (AllPairs-head R h (t ++ b) pairs) was
      | inr same ↦ subst (R h) same (lower h (has_head h t))
    ]))
    (pairs_midst R t b x (AllPairs-tail R h (t ++ b) pairs) (λ y has. lower y (in_tail h t y has)) upper)

length_midst : (a b : List ℕ) (x : ℕ) → length (a ++ x ∷ b) ≡ suc (length (a ++ b))
length_midst [] b x = refl
length_midst (h ∷ t) b x = ap suc (length_midst t b x)

module _ (R : ℕ → ℕ → Type 0) (may now : ℕ → Type 0) (most x : ℕ) (a b : List ℕ) (was : AreLatest R may most (a ++ b)) (grows : (id : ℕ) → may id → now id) (comes : now x)
    (which : (id : ℕ) → now id → may id ⊎ (x ≡ id)) (lower : (y : ℕ) → Contains a y → R y x) (upper : (y : ℕ) → Contains b y → R x y)
    (along : (p q : ℕ) → may p → may q → R p q → R q x → R p x) where
  each_now : (id : ℕ) → Contains (a ++ x ∷ b) id → now id
  each_now id has =
      elim (midst_cases a b x id has) [ inl old ↦ grows id (was.each id old) | inr same ↦ subst now same comes ]

  -- where there were too few of them, it is one of the latest
  short : length (a ++ b) < most → AreLatest R now most (a ++ x ∷ b)
  short fewer = record {
    each = each_now;
    few = (let long = length_midst a b x in omega (arith, long, fewer));
    all = λ less id is. held id is;
    latest = λ stays id is not has. absurd (not (held stays is));
    rising = pairs_midst R a b x was.rising lower upper;
  }
    where
      held : (id : ℕ) → now id → Contains (a ++ x ∷ b) id
      held id is = elim (which id is) [
        | inl old ↦ in_midst a b x id (was.all fewer id old)
        | inr same ↦ subst (Contains (a ++ x ∷ b)) same (is_midst a b x)
      ]

-- where they are as many as wanted and it comes before all of them, they stay
skipped : (R : ℕ → ℕ → Type 0) (may now : ℕ → Type 0) (most x : ℕ) (b : List ℕ) → AreLatest R may most b
    → ((id : ℕ) → may id → now id)
    → ((id : ℕ) → now id → may id ⊎ (x ≡ id)) → ((y : ℕ) → Contains b y → R x y) → most ≤ length b
    → AreLatest R now most b
skipped R may now most x b was grows which upper full = record {
  each = λ id has. grows id (was.each id has);
  few = was.few;
  all = λ less id is. absurd (omega (arith, less, full));
  latest = λ stays id is not has. elim (which stays is) [
    | inl old ↦ was.latest stays id old not has
    | inr same ↦ subst (λ k. R k id) same (upper id has)
  ];
  rising = was.rising;
}

-- where it comes after the first of them, that one leaves
module _ (R : ℕ → ℕ → Type 0) (may now : ℕ → Type 0) (most x h : ℕ) (t b : List ℕ) (was : AreLatest R may most (h ∷ t ++ b)) (grows : (id : ℕ) → may id → now id) (comes : now x)
    (which : (id : ℕ) → now id → may id ⊎ (x ≡ id)) (lower : (y : ℕ) → Contains (h ∷ t) y → R y x) (upper : (y : ℕ) → Contains b y → R x y)
    (along : (p q : ℕ) → may p → may q → R p q → R q x → R p x) (full : most ≤ length (h ∷ t ++ b)) where
  behind : List ℕ
  behind = t ++ b

  first_before : (id : ℕ) → Contains (t ++ b) id → R h id
  first_before id has = All-contains (R h) (t ++ b) id (AllPairs-head R h (t ++ b) was.rising) has

  stays_before : (stays : ℕ) → may stays → (Contains (t ++ x ∷ b) stays → ⊥) → (id : ℕ) → Contains (t ++ x ∷ b) id
      → R stays id
  stays_before stays old not id has = elim (cases_eq stays h) [
    | inl first ↦ elim (midst_cases t b x id has) [
      | inl there ↦ subst (λ k. R k id) (sym first) (first_before id there)
      | inr same ↦ subst (R stays) same (subst (λ k. R k x) (sym first) (lower h (has_head h t)))
    ]
    | inr other ↦
        let away : Contains (h ∷ t ++ b) stays → ⊥ = λ in_it. elim (head_or_tail h (t ++ b) stays in_it) [
          | inl same ↦ other (sym same)
          | inr tail ↦ not (in_midst t b x stays tail)
        ] in
        elim (midst_cases t b x id has) [
          | inl there ↦ was.latest stays id old away (in_tail h (t ++ b) id there)
          | inr same ↦
              subst (R stays) same
              (along stays h old (was.each h (has_head h (t ++ b))) (was.latest stays h old away (has_head h (t ++ b))) (lower h (has_head h t)))
        ]
  ]

  replaced : AreLatest R now most (t ++ x ∷ b)
  replaced = record {
    each = λ id has. elim (midst_cases t b x id has) [
      | inl there ↦ grows id (was.each id (in_tail h (t ++ b) id there))
      | inr same ↦ subst now same comes
    ];
    few = (let long = length_midst t b x in let upto = was.few in omega (arith, long, upto));
    all = λ less id is. (let long = length_midst t b x in absurd (omega (arith, long, full, less)));
    latest = λ stays id is not has. elim (which stays is) [
      | inl old ↦ stays_before stays old not id has
      | inr same ↦ absurd (not (subst (Contains (t ++ x ∷ b)) same (is_midst t b x)))
    ];
    rising = pairs_midst R t b x (AllPairs-tail R h (t ++ b) was.rising) (λ y has. lower y (in_tail h t y has)) upper;
  }

-- what stands in the first part of a list, and what stands behind it
pub in_take : (n : ℕ) (xs : List ℕ) (y : ℕ) → Contains (take n xs) y → (k : ℕ) × (k < n) × (slice_get xs k ≡ Some y)
in_take zero xs y has = absurd (omega (arith, has.1))
in_take (suc n) [] y has = absurd (omega (arith, has.1))
in_take (suc n) (x ∷ xs) y has = elim (head_or_tail x (take n xs) y has) [
  | inl same ↦ (0, omega arith, ap Some same)
  | inr tail ↦ (let found = in_take n xs y tail in (suc found.0, omega (arith, found.1), found.2))
]

pub in_drop : (n : ℕ) (xs : List ℕ) (y : ℕ) → Contains (drop n xs) y → (k : ℕ) × (n ≤ k) × (slice_get xs k ≡ Some y)
in_drop zero xs y has = (has.0, omega arith, slice_get-get_or xs has.0 y has.1 ∙ ap Some has.2)
in_drop (suc n) [] y has = absurd (omega (arith, has.1))
in_drop (suc n) (x ∷ xs) y has = (let found = in_drop n xs y has in (suc found.0, omega (arith, found.1), found.2))

-- of a list in order an earlier one comes before a later one
pub pairs_at : (R : ℕ → ℕ → Type 0) (xs : List ℕ) (i j a b : ℕ) → AllPairs R xs → i < j → slice_get xs i ≡ Some a
    → slice_get xs j ≡ Some b → R a b
pairs_at R xs i j a b pairs less at then =
    subst (λ y. R y b) (get_or_from_slice_get xs i a b at) (subst (R (slice_index_or xs i b)) (get_or_from_slice_get xs j b b then) (pairs i j b less (slice_get_within xs j b then)))

-- one more, at its place among the latest, of which the first one leaves where they are too many
pub one_more : (R : ℕ → ℕ → Type 0) (may now : ℕ → Type 0) (x : ℕ) (ids : List ℕ) (place : ℕ)
    → AreLatest R may MAX_MOVED ids → ((id : ℕ) → may id → now id) → now x
    → ((id : ℕ) → now id → may id ⊎ (x ≡ id)) → ((y : ℕ) → Contains (take place ids) y → R y x)
    → ((y : ℕ) → Contains (drop place ids) y → R x y)
    → ((p q : ℕ) → may p → may q → R p q → R q x → R p x) → AreLatest R now MAX_MOVED (with_one ids place x)
one_more R may now x ids place was grows comes which lower upper along = elim (cases_lt (length ids) MAX_MOVED) [
  | inl fewer ↦
      let none : length ids + 1 - MAX_MOVED ≡ 0 = omega (arith, fewer) in
      subst (λ n. AreLatest R now MAX_MOVED (drop n (insert ids place x))) (sym none)
      (short R may now MAX_MOVED x (take place ids) (drop place ids) (subst (AreLatest R may MAX_MOVED) (sym (take-append-drop place ids)) was) grows comes which lower upper along
      (subst (λ xs. length xs < MAX_MOVED) (sym (take-append-drop place ids)) fewer))
  | inr full ↦
      let one : length ids + 1 - MAX_MOVED ≡ 1 = (let few = was.few in omega (arith, full, few)) in
      subst (λ n. AreLatest R now MAX_MOVED (drop n (insert ids place x))) (sym one) (leaves ids place was lower upper full)
]
  where
    leaves : (ids : List ℕ) (place : ℕ) → AreLatest R may MAX_MOVED ids
        → ((y : ℕ) → Contains (take place ids) y → R y x) → ((y : ℕ) → Contains (drop place ids) y → R x y)
        → MAX_MOVED ≤ length ids → AreLatest R now MAX_MOVED (drop 1 (insert ids place x))
    leaves ids zero was lower upper full = skipped R may now MAX_MOVED x ids was grows which upper full
    leaves [] (suc p) was lower upper full = absurd (omega (arith, full))
    leaves (h ∷ t) (suc p) was lower upper full =
        let both : t ≡ take p t ++ drop p t = sym (take-append-drop p t) in
        replaced R may now MAX_MOVED x h (take p t) (drop p t) (subst (λ xs. AreLatest R may MAX_MOVED (h ∷ xs)) both was) grows comes which lower upper along
        (subst (λ xs. MAX_MOVED ≤ length (h ∷ xs)) both full)
