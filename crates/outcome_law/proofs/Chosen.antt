-- The tasks that a coalescing moves are one list.
use Rattle.std.proofs.Common.{◌≡◌, ◌≢◌, ◌≤◌, ◌<◌, suc, ℕ, List, [], ◌∷◌, length, refl, sym, ap, subst, ◌∙◌, inl, inr}
use Rattle.std.proofs.Common.{◌⊎◌, arith}
use Rattle.std.specs.Prelude.{AllPairs}
use Rattle.std.proofs.lemmas.Bool.{cases_eq, cases_lt}
use Rattle.std.proofs.lemmas.List.Elements.{All-contains}
use Rattle.fractal_vt.proofs.Proved.{AllPairs-head, AllPairs-tail}
use Rattle.memory_law.specs.Tasks.{In}
use Rattle.step_script.proofs.Below.spec_law.Proved.{contains_in, in_contains, not_both_ways}
use Rattle.step_script.specs.spec_state.declared.reserving.TheConstants.{MAX_MOVED}
use Rattle.step_script.specs.spec_state.View.{View}
use Rattle.step_script.specs.spec_state.Least.{Precedes}
use Rattle.step_script.specs.spec_state.Room.{IsMovable, AreChosen}

-- ---- a number is in a list, or it isn't

pub in_or_not : (x : ℕ) (xs : List ℕ) → In x xs ⊎ (In x xs → ⊥)
in_or_not x [] = inr (λ at. at)
in_or_not x (y ∷ xs) = elim (cases_eq x y) [
  | inl here ↦ inl (inl here)
  | inr other ↦ elim (in_or_not x xs) [
    | inl later ↦ inl (inr later)
    | inr none ↦ inr (λ at. elim at [
      | inl here ↦ other here
      | inr later ↦ none later
    ])
  ]
]

-- ---- distinct elements of a list are no more than it has

AreApart : List ℕ → Type 0
AreApart [] = Unit {0}
AreApart (x ∷ xs) = (In x xs → ⊥) × AreApart xs

record Without (x : ℕ) (ys : List ℕ) : Type 0 where
  rest : List ℕ
  shorter : length ys ≡ suc (length rest)
  others : (y : ℕ) → In y ys → y ≢ x → In y rest

without_one : (x : ℕ) (ys : List ℕ) → In x ys → Without x ys
without_one x [] at = absurd at
without_one x (y ∷ ys) (inl here) = record {
  rest = ys;
  shorter = refl;
  others = λ z is other. elim is [
    | inl same ↦ absurd (other (same ∙ sym here))
    | inr later ↦ later
  ];
}
without_one x (y ∷ ys) (inr later) =
    let w = without_one x ys later in
    record {
      rest = y ∷ w.rest;
      shorter = ap suc w.shorter;
      others = λ z is other. elim is [
        | inl same ↦ inl same
        | inr behind ↦ inr (w.others z behind other)
      ];
    }

no_more : (xs ys : List ℕ) → AreApart xs → ((x : ℕ) → In x xs → In x ys) → length xs ≤ length ys
unfolding AreApart
no_more [] ys apart within = omega arith
no_more (x ∷ xs) ys apart within =
    let w = without_one x ys (within x (inl refl)) in
    let rest = no_more xs w.rest apart.1 (λ y at. w.others y (within y (inr at)) (λ same. apart.0 (subst (λ z. In z xs) same at))) in
    let shorter = w.shorter in
    omega arith

-- ---- lists in a strict order

module _ (M : ℕ → Type 0) (P : ℕ → ℕ → Type 0) (asym : (x y : ℕ) → M x → M y → P x y → P y x → ⊥) where
  pub Rises : List ℕ → Type 0
  Rises [] = Unit {0}
  Rises (x ∷ xs) = ((y : ℕ) → In y xs → P x y) × Rises xs

  pub rises : (xs : List ℕ) → AllPairs P xs → Rises xs
  unfolding Rises
  rises [] pairs = tt
  rises (x ∷ xs) pairs =
      ((λ y at. All-contains (P x) xs y (AllPairs-head P x xs pairs) (in_contains xs y at)), rises xs (AllPairs-tail P x xs pairs))

  apart : (xs : List ℕ) → ((x : ℕ) → In x xs → M x) → Rises xs → AreApart xs
  unfolding Rises AreApart
  apart [] of up = tt
  apart (x ∷ xs) of up =
      ((λ at. asym x x (of x (inl refl)) (of x (inl refl)) (up.0 x at) (up.0 x at)), apart xs (λ y at. of y (inr at)) up.1)

  pub one_order : (xs ys : List ℕ) → ((x : ℕ) → In x xs → M x) → Rises xs → Rises ys → ((x : ℕ) → In x xs → In x ys)
      → ((x : ℕ) → In x ys → In x xs) → xs ≡ ys
  unfolding Rises
  one_order [] [] of up up' one two = refl
  one_order [] (y ∷ ys) of up up' one two = absurd (two y (inl refl))
  one_order (x ∷ xs) [] of up up' one two = absurd (one x (inl refl))
  one_order (x ∷ xs) (y ∷ ys) of up up' one two =
      let first : x ≡ y = same_first (one x (inl refl)) (two y (inl refl)) in
      let rest = one_order xs ys (λ z at. of z (inr at)) up.1 up'.1
      (λ z at. elim (one z (inr at)) [
        | inl here ↦ absurd (asym x x (of x (inl refl)) (of x (inl refl)) (subst (λ k. P x k) (here ∙ sym first) (up.0 z at)) (subst (λ k. P x k) (here ∙ sym first) (up.0 z at)))
        | inr later ↦ later
      ])
      (λ z at. elim (two z (inr at)) [
        | inl here ↦ absurd (asym y y (of y (two y (inl refl))) (of y (two y (inl refl))) (subst (λ k. P y k) (here ∙ first) (up'.0 z at)) (subst (λ k. P y k) (here ∙ first) (up'.0 z at)))
        | inr later ↦ later
      ]) in
      λ i. first i ∷ rest i
    where
      same_first : In x (y ∷ ys) → In y (x ∷ xs) → x ≡ y
      same_first (inl here) there = here
      same_first (inr later) (inl here) = sym here
      same_first (inr later) (inr later') =
          absurd (asym x y (of x (inl refl)) (of y (inr later')) (up.0 y later') (up'.0 x later))

  -- at most so many of the last ones
  record AreLast (most : ℕ) (xs : List ℕ) : Type 0 where
    movable : (x : ℕ) → In x xs → M x
    few : length xs ≤ most
    all : length xs < most → (x : ℕ) → M x → In x xs
    latest : (stays x : ℕ) → M stays → (In stays xs → ⊥) → In x xs → P stays x
    rising : Rises xs

  last_within : (most : ℕ) (xs ys : List ℕ) → AreLast most xs → AreLast most ys → (x : ℕ) → In x xs → In x ys
  unfolding AreApart
  last_within most xs ys one two x at = elim (in_or_not x ys) [
    | inl is ↦ is
    | inr none ↦ elim (cases_lt (length ys) most) [
      | inl less ↦ two.all less x (one.movable x at)
      | inr full ↦ absurd (too_many none full)
    ]
  ]
    where
      too_many : (In x ys → ⊥) → most ≤ length ys → ⊥
      too_many none full =
          let behind : (y : ℕ) → In y ys → P x y = λ y is. two.latest x y (one.movable x at) none is in
          let among : (y : ℕ) → In y ys → In y xs = λ y is. elim (in_or_not y xs) [
            | inl has ↦ has
            | inr not_there ↦ absurd (asym x y (one.movable x at) (two.movable y is) (behind y is) (one.latest y x (two.movable y is) not_there at))
          ] in
          let all : (y : ℕ) → In y (x ∷ ys) → In y xs = λ y is. elim is [
            | inl here ↦ subst (λ z. In z xs) (sym here) at
            | inr later ↦ among y later
          ] in
          let count = no_more (x ∷ ys) xs (joined none) all in
          let few = one.few in
          omega arith
        where
          joined : (In x ys → ⊥) → AreApart (x ∷ ys)
          joined misses = (misses, apart ys two.movable two.rising)

  last_are_one : (most : ℕ) (xs ys : List ℕ) → AreLast most xs → AreLast most ys → xs ≡ ys
  last_are_one most xs ys one two =
      one_order xs ys one.movable one.rising two.rising (last_within most xs ys one two) (last_within most ys xs two one)

-- ---- the tasks that move

module _ (view : View) (tile : ℕ) where
  movable_apart : (x y : ℕ) → IsMovable view tile x → IsMovable view tile y → Precedes view tile x y
      → Precedes view tile y x → ⊥
  movable_apart x y one two before behind =
      not_both_ways view tile x y one.0 two.0 one.1.idle.queued one.1.idle.there two.1.idle.queued two.1.idle.there before behind

  are_last : (ids : List ℕ) → AreChosen view tile ids
      → AreLast (IsMovable view tile) (Precedes view tile) movable_apart MAX_MOVED ids
  are_last ids c = record {
    movable = λ x at. c.movable x (in_contains ids x at);
    few = c.few;
    all = λ less x movable. contains_in ids x (c.all less x movable);
    latest =
        λ stays x movable none at. c.latest stays x movable (λ has. none (contains_in ids stays has)) (in_contains ids x at);
    rising = rises (IsMovable view tile) (Precedes view tile) movable_apart ids c.rising;
  }

  pub chosen_are_one : (ids others : List ℕ) → AreChosen view tile ids → AreChosen view tile others → ids ≡ others
  chosen_are_one ids others one two =
      last_are_one (IsMovable view tile) (Precedes view tile) movable_apart MAX_MOVED ids others (are_last ids one) (are_last others two)
