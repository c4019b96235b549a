-- Elements that are added to a list one after another, each at some place, as pushes add them to a block.
use Rattle.std.proofs.Common.{ℕ, zero, suc, ◌≡◌, ◌<◌, ◌⊎◌, inl, inr, Bool, true, false, List, [], ◌∷◌, ◌++◌, Some, refl}
use Rattle.std.proofs.Common.{sym, ap, subst, ◌∙◌, arith, append_assoc, if◌then◌else◌}
use Rattle.std.proofs.lemmas.Bool.Decides.{nat_tests}
use Rattle.std.proofs.lemmas.List.{map-append}
use Rattle.std.proofs.lemmas.List.Elements.{All-contains, Contains-get_or, Contains-append_left, Contains-append_right}
use Rattle.std.proofs.lemmas.List.Elements.{Contains-append_cases}
use Rattle.std.specs.Ordering.{is_lt, nat_cmp}
use Rattle.std.specs.Prelude.{length, slice_get, slice_index_or, slice_set, All, Contains, flat_map, map}
use Rattle.spill_store.specs.SpilledTasks.{Spilled, by_key, after_push}
use Rattle.spill_store.specs.Pushing.{after_pushes}
use Rattle.spec_state.proofs.Proved.{head_or_tail}

-- these elements are added to the first list one after another, each at some place, which makes the second
abbrev pub AddsEach : {X : Type 0} → List X → List X → List X → Type 0
AddsEach [] before after = after ≡ before
AddsEach {X} (e ∷ es) before after =
    (front : List X) × (back : List X) × (before ≡ front ++ back) × AddsEach es (front ++ e ∷ back) after

-- so are they under a map
pub added_mapped : {X Y : Type 0} (f : X → Y) (es before after : List X) → AddsEach es before after
    → AddsEach (map f es) (map f before) (map f after)
added_mapped f [] before after same = ap (map f) same
added_mapped f (e ∷ es) before after adds = (
  map f adds.0,
  map f adds.1,
  ap (map f) adds.2 ∙ map-append f adds.0 adds.1,
  subst (λ xs. AddsEach (map f es) xs (map f after)) (map-append f adds.0 (e ∷ adds.1)) (added_mapped f es (adds.0 ++ e ∷ adds.1) after adds.3),
)

-- and with more on both sides
added_within : {X : Type 0} (left right es before after : List X) → AddsEach es before after
    → AddsEach es (left ++ (before ++ right)) (left ++ (after ++ right))
added_within left right [] before after same = ap (λ xs. left ++ (xs ++ right)) same
added_within left right (e ∷ es) before after adds = (
  left ++ adds.0,
  adds.1 ++ right,
  ap (λ xs. left ++ (xs ++ right)) adds.2 ∙ ap (λ xs. left ++ xs) (append_assoc adds.0 adds.1 right)
      ∙ sym (append_assoc left adds.0 (adds.1 ++ right)),
  subst (λ xs. AddsEach es xs (left ++ (after ++ right)))
      (ap (λ xs. left ++ xs) (append_assoc adds.0 (e ∷ adds.1) right) ∙ sym (append_assoc left adds.0 (e ∷ adds.1 ++ right)))
      (added_within left right es (adds.0 ++ e ∷ adds.1) after adds.3),
)

-- a push adds its spilled task
pushed_between : (block : List Spilled) (e : Spilled)
    → (front : List Spilled) × (back : List Spilled) × (block ≡ front ++ back) × (after_push block e ≡ front ++ e ∷ back)
pushed_between [] e = ([], [], refl, refl)
pushed_between (y ∷ ys) e = by_case (is_lt (by_key e y)) (pushed_between ys e)
  where
    by_case : (b : Bool)
        → (front : List Spilled) × (back : List Spilled) × (ys ≡ front ++ back) × (after_push ys e ≡ front ++ e ∷ back)
        → (front : List Spilled) × (back : List Spilled) × (y ∷ ys ≡ front ++ back) × ((if b then e ∷ y ∷ ys else y ∷ after_push ys e) ≡ front ++ e ∷ back)
    by_case true more = ([], y ∷ ys, refl, refl)
    by_case false more = (y ∷ more.0, more.1, ap (λ zs. y ∷ zs) more.2, ap (λ zs. y ∷ zs) more.3)

-- and several pushes theirs
pub pushes_each : (es block : List Spilled) → AddsEach es block (after_pushes block es)
pushes_each [] block = refl
pushes_each (e ∷ es) block =
    let put = pushed_between block e in (
      put.0,
      put.1,
      put.2,
      subst (λ xs. AddsEach es xs (after_pushes (after_push block e) es)) put.3 (pushes_each es (after_push block e)),
    )

-- one list of several stands among all of them between the same two parts, whichever takes its place
around_one : {X : Type 0} (lists : List (List X)) (at : ℕ) → at < length lists
    → (left : List X) × (right : List X) × (flat_map (λ xs. xs) lists ≡ left ++ (slice_index_or lists at [] ++ right))
    × ((xs : List X) → flat_map (λ ys. ys) (slice_set lists at xs) ≡ left ++ (xs ++ right))
around_one [] at below = absurd (omega (arith, below))
around_one (ys ∷ lists) zero below = ([], flat_map (λ xs. xs) lists, refl, λ xs. refl)
around_one (ys ∷ lists) (suc at) below =
    let rest = around_one lists at (omega (arith, below)) in (
      ys ++ rest.0,
      rest.1,
      ap (λ xs. ys ++ xs) rest.2 ∙ sym (append_assoc ys rest.0 (slice_index_or lists at [] ++ rest.1)),
      λ xs. ap (λ zs. ys ++ zs) (rest.3 xs) ∙ sym (append_assoc ys rest.0 (xs ++ rest.1)),
    )

-- what is pushed into one block is added to all of them together
pub pushed_in_one : (blocks : List (List Spilled)) (at : ℕ) (es : List Spilled) → at < length blocks
    → AddsEach es (flat_map (λ block. block) blocks) (flat_map (λ block. block) (slice_set blocks at (after_pushes (slice_index_or blocks at []) es)))
pushed_in_one blocks at es below =
    let around = around_one blocks at below in
    let block = slice_index_or blocks at [] in
    subst (λ xs. AddsEach es xs (flat_map (λ b. b) (slice_set blocks at (after_pushes block es)))) (sym around.2)
    (subst (λ xs. AddsEach es (around.0 ++ (block ++ around.1)) xs) (sym (around.3 (after_pushes block es)))
    (added_within around.0 around.1 es block (after_pushes block es) (pushes_each es block)))

-- what stood there stands there still
pub added_was : {X : Type 0} (es before after : List X) (x : X) → AddsEach es before after → Contains before x
    → Contains after x
added_was [] before after x same has = subst (λ xs. Contains xs x) (sym same) has
added_was (e ∷ es) before after x adds has =
    added_was es (adds.0 ++ e ∷ adds.1) after x adds.3
    (elim (Contains-append_cases adds.0 adds.1 x (subst (λ xs. Contains xs x) adds.2 has)) [
      | inl front ↦ Contains-append_left adds.0 (e ∷ adds.1) x front
      | inr back ↦ Contains-append_right adds.0 (e ∷ adds.1) x (Contains-append_right (e ∷ []) adds.1 x back)
    ])

-- so does what is added
pub added_is : {X : Type 0} (es before after : List X) (x : X) → AddsEach es before after → Contains es x
    → Contains after x
added_is [] before after x adds has = absurd (omega (arith, has.1))
added_is (e ∷ es) before after x adds has = elim (head_or_tail e es x has) [
  | inl same ↦
      added_was es (adds.0 ++ e ∷ adds.1) after x adds.3 (Contains-append_right adds.0 (e ∷ adds.1) x (0, omega arith, same))
  | inr later ↦ added_is es (adds.0 ++ e ∷ adds.1) after x adds.3 later
]

-- and nothing else
pub added_now : {X : Type 0} (es before after : List X) (x : X) → AddsEach es before after → Contains after x
    → Contains before x ⊎ Contains es x
added_now [] before after x same has = inl (subst (λ xs. Contains xs x) same has)
added_now (e ∷ es) before after x adds has = elim (added_now es (adds.0 ++ e ∷ adds.1) after x adds.3 has) [
  | inl among ↦ elim (Contains-append_cases adds.0 (e ∷ adds.1) x among) [
    | inl front ↦ inl (subst (λ xs. Contains xs x) (sym adds.2) (Contains-append_left adds.0 adds.1 x front))
    | inr rest ↦ elim (head_or_tail e adds.1 x rest) [
      | inl same ↦ inr (0, omega arith, same)
      | inr back ↦ inl (subst (λ xs. Contains xs x) (sym adds.2) (Contains-append_right adds.0 adds.1 x back))
    ]
  ]
  | inr later ↦ inr (suc later.0, omega (arith, later.1), later.2)
]

-- so what holds of all that stood there and of all that is added holds of all
pub all_added : {X : Type 0} (P : X → Type 0) (es before after : List X) → AddsEach es before after → All P before
    → All P es → All P after
all_added P es before after adds was more k d below =
    elim (added_now es before after (slice_index_or after k d) adds (Contains-get_or after k d below)) [
      | inl stood ↦ All-contains P before (slice_index_or after k d) was stood
      | inr new ↦ All-contains P es (slice_index_or after k d) more new
    ]

-- where an element of the first list stands in the second: of all that stand there the added ones aside, each is before or behind it as it was
pub record StandsAt {X : Type 0} (es before after : List X) (place : ℕ) (x : X) : Type 0 where
  pub to : ℕ
  pub there : slice_get after to ≡ Some x
  pub others : (k : ℕ) (y : X) → slice_get after k ≡ Some y
      → ((was : ℕ) × (slice_get before was ≡ Some y) × (nat_cmp to k ≡ nat_cmp place was)) ⊎ Contains es y

-- what stands in a list with one more is that, or stood there
was_or_new : {X : Type 0} (front back : List X) (e : X) (k : ℕ) (y : X) → slice_get (front ++ e ∷ back) k ≡ Some y
    → ((was : ℕ) × (slice_get (front ++ back) was ≡ Some y)) ⊎ (e ≡ y)
was_or_new [] back e zero y at = let same : e ≡ y = cc in inr same
was_or_new [] back e (suc k) y at = inl (k, at)
was_or_new (z ∷ front) back e zero y at = inl (zero, at)
was_or_new (z ∷ front) back e (suc k) y at =
    elim (was_or_new front back e k y at) [ inl was ↦ inl (suc was.0, was.1) | inr new ↦ inr new ]

-- behind one more element each stands one place later
behind_one : {X : Type 0} (z : X) (front back : List X) (e x : X) (place : ℕ)
    → StandsAt (e ∷ []) (front ++ back) (front ++ e ∷ back) place x
    → StandsAt (e ∷ []) (z ∷ (front ++ back)) (z ∷ (front ++ e ∷ back)) (suc place) x
behind_one {X} z front back e x place more = record { to = suc more.to; there = more.there; others = others }
  where
    others : (k : ℕ) (y : X) → slice_get (z ∷ (front ++ e ∷ back)) k ≡ Some y
        → ((was : ℕ) × (slice_get (z ∷ (front ++ back)) was ≡ Some y) × (nat_cmp (suc more.to) k ≡ nat_cmp (suc place) was)) ⊎ Contains (e ∷ []) y
    others zero y is = inl (zero, is, grind (arith, nat_tests))
    others (suc k) y is = elim (more.others k y is) [
      | inl was ↦ inl (suc was.0, was.1, (let same = was.2 in grind (arith, nat_tests, same)))
      | inr new ↦ inr new
    ]

-- one more element, at any place, leaves each other before or behind it as it was
stands_beside : {X : Type 0} (front back : List X) (e x : X) (place : ℕ) → slice_get (front ++ back) place ≡ Some x
    → StandsAt (e ∷ []) (front ++ back) (front ++ e ∷ back) place x
stands_beside {X} [] back e x place at = record { to = suc place; there = at; others = others }
  where
    others : (k : ℕ) (y : X) → slice_get (e ∷ back) k ≡ Some y
        → ((was : ℕ) × (slice_get back was ≡ Some y) × (nat_cmp (suc place) k ≡ nat_cmp place was)) ⊎ Contains (e ∷ []) y
    others zero y is = let same : e ≡ y = cc in inr (0, omega arith, same)
    others (suc k) y is = inl (k, is, grind (arith, nat_tests))
stands_beside {X} (z ∷ front) back e x zero at = record { to = zero; there = at; others = others }
  where
    others : (k : ℕ) (y : X) → slice_get (z ∷ (front ++ e ∷ back)) k ≡ Some y
        → ((was : ℕ) × (slice_get (z ∷ (front ++ back)) was ≡ Some y) × (nat_cmp zero k ≡ nat_cmp zero was)) ⊎ Contains (e ∷ []) y
    others zero y is = inl (zero, is, refl)
    others (suc k) y is = elim (was_or_new front back e k y is) [
      | inl was ↦ inl (suc was.0, was.1, grind (arith, nat_tests))
      | inr new ↦ inr (0, omega arith, new)
    ]
stands_beside (z ∷ front) back e x (suc place) at =
    behind_one z front back e x place (stands_beside front back e x place at)

-- after the first of some elements the others are added
then_others : {X : Type 0} (e : X) (es before mid after : List X) (place : ℕ) (x : X) (first : StandsAt (e ∷ []) before mid place x)
    → StandsAt es mid after first.to x → StandsAt (e ∷ es) before after place x
then_others {X} e es before mid after place x first last = record { to = last.to; there = last.there; others = others }
  where
    others : (k : ℕ) (y : X) → slice_get after k ≡ Some y
        → ((was : ℕ) × (slice_get before was ≡ Some y) × (nat_cmp last.to k ≡ nat_cmp place was)) ⊎ Contains (e ∷ es) y
    others k y is = elim (last.others k y is) [
      | inl between ↦ elim (first.others between.0 y between.1) [
        | inl was ↦ inl (was.0, was.1, between.2 ∙ was.2)
        | inr new ↦ elim (head_or_tail e [] y new) [ inl same ↦ inr (0, omega arith, same) | inr none ↦ absurd (omega (arith, none.1)) ]
      ]
      | inr later ↦ inr (suc later.0, omega (arith, later.1), later.2)
    ]

-- so do several
pub added_stands : {X : Type 0} (es before after : List X) (place : ℕ) (x : X) → AddsEach es before after
    → slice_get before place ≡ Some x
    → StandsAt es before after place x
added_stands [] before after place x same at = record {
  to = place;
  there = ap (λ xs. slice_get xs place) same ∙ at;
  others = λ k y is. inl (k, sym (ap (λ xs. slice_get xs k) same) ∙ is, refl);
}
added_stands (e ∷ es) before after place x adds at =
    let here = sym (ap (λ xs. slice_get xs place) adds.2) ∙ at in
    let first = stands_beside adds.0 adds.1 e x place here in
    subst (λ xs. StandsAt (e ∷ es) xs after place x) (sym adds.2)
    (then_others e es (adds.0 ++ adds.1) (adds.0 ++ e ∷ adds.1) after place x first
    (added_stands es (adds.0 ++ e ∷ adds.1) after first.to x adds.3 first.there))
