-- The members of a list, which are the marked tasks, taken back in the order of that list.
use Rattle.std.proofs.Common.{◌≡◌, ◌≢◌, ◌⊎◌, ◌<◌, ◌≤◌, ◌+◌, ℕ, Bool, true, false, List, length, take, Some, refl, sym}
use Rattle.std.proofs.Common.{ap, subst, ◌∙◌, inl, inr, arith, slice_index_or, slice_get, if◌then◌else◌}
use Rattle.std.specs.Prelude.{◌==◌, Contains, AllPairs, IsSome}
use Rattle.std.specs.Cmp.{both_ways}
use Rattle.std.proofs.lemmas.Bool.{cases_eq}
use Rattle.std.proofs.lemmas.List.{length-take-le, get_or-take}
use Rattle.std.proofs.lemmas.Option.{get_or_from_slice_get}
use Rattle.abort_cascade.specs.Cascade.{Marked}
use Rattle.spec_state.specs.StateValue.{Scratch}
use Rattle.spec_state.specs.View.{View, task_at}
use Rattle.spec_state.specs.Aborts.{is_marked}
use Rattle.spec_state.proofs.Proved.{other_test}
use Rattle.spec_rollback.specs.Pulled.{ListsMarked}
use Rattle.spec_rollback.specs.TakenBack.{TakesOne, TakesThese}
use Rattle.spec_rollback.proofs.Undone.{among, among_is, is_among, not_among}
use Rattle.spec_rollback.proofs.TakenBack.{more, same_id, untaken, one_more}

-- what a list has at a place below a bound is among its first
at_place : (xs : List ℕ) (n place id : ℕ) → place < n → n ≤ length xs → slice_get xs place ≡ Some id → (d : ℕ)
    → slice_index_or (take n xs) place d ≡ id
at_place xs n place id below long at d = get_or-take n xs place d below ∙ get_or_from_slice_get xs place id d at

module _ (scratch : Scratch) (found : ℕ) (listed : ListsMarked scratch found) (place id : ℕ) (below : place < found)
    (at : slice_get scratch.members place ≡ Some id) where
  abbrev members : List ℕ
  members = scratch.members

  pub member_marked : Marked scratch.marks id
  member_marked =
      (listed.marked id).1 (
        place,
        (let long = length-take-le found members listed.within in omega (arith, long, below)),
        at_place members found place id below listed.within at id,
      )

  module _ (once : AllPairs (λ a b. a ≢ b) (take found members)) where
    -- it is none of those before it
    not_before : Contains (take place members) id → ⊥
    not_before has =
        let within = listed.within in
        let long : length (take place members) ≡ place = length-take-le place members (omega (arith, within, below)) in
        let less : has.0 < place = (let low = has.1 in omega (arith, low, long)) in
        let many = length-take-le found members listed.within in
        let first : slice_index_or (take found members) has.0 id ≡ id =
        get_or-take found members has.0 id (omega (arith, less, below))
        ∙ sym (get_or-take place members has.0 id less) ∙ has.2 in
        once has.0 place id less (omega (arith, many, below))
        (first ∙ sym (at_place members found place id below listed.within at id))

    pub fresh : among (take place members) id ≡ false
    fresh = not_among (take place members) id not_before

    -- one more of the list is one member more
    one_longer : (k : ℕ) → Contains (take (place + 1) members) k → (k ≡ id) ⊎ Contains (take place members) k
    one_longer k has = elim (cases_eq has.0 place) [
      | inl same ↦ inl (
          sym has.2 ∙ get_or-take (place + 1) members has.0 k (omega (arith, same))
          ∙ ap (λ n. slice_index_or members n k) same ∙ get_or_from_slice_get members place id k at
          )
      | inr other ↦
          let within = listed.within in
          let long : length (take (place + 1) members) ≡ place + 1 = length-take-le (place + 1) members
          (omega (arith, within, below)) in
          let short : length (take place members) ≡ place = length-take-le place members
          (omega (arith, within, below)) in
          let less : has.0 < place = (let low = has.1 in omega (arith, low, long, other)) in
          inr (
            has.0,
            omega (arith, less, short),
            get_or-take place members has.0 k less
                ∙ sym (get_or-take (place + 1) members has.0 k (omega (arith, less))) ∙ has.2,
          )
    ]

    in_longer : (k : ℕ) → (k ≡ id) ⊎ Contains (take place members) k → Contains (take (place + 1) members) k
    in_longer k (inl same) =
        let within = listed.within in
        let long : length (take (place + 1) members) ≡ place + 1 = length-take-le (place + 1) members
        (omega (arith, within, below)) in (
          place,
          omega (arith, long),
          get_or-take (place + 1) members place k (omega arith)
              ∙ get_or_from_slice_get members place id k at ∙ sym same,
        )
    in_longer k (inr has) =
        let within = listed.within in
        let long : length (take (place + 1) members) ≡ place + 1 = length-take-le (place + 1) members
        (omega (arith, within, below)) in
        let short : length (take place members) ≡ place = length-take-le place members (omega (arith, within, below))
        in
        let less : has.0 < place = (let low = has.1 in omega (arith, low, short)) in (
          has.0,
          omega (arith, less, long),
          get_or-take (place + 1) members has.0 k (omega (arith, less))
              ∙ sym (get_or-take place members has.0 k less) ∙ has.2,
        )

    is_more : (k : ℕ) → more (among (take place members)) id k ≡ true → Contains (take (place + 1) members) k
    is_more k is = elim (cases_eq k id) [
      | inl same ↦ in_longer k (inl same)
      | inr other ↦ in_longer k
          (inr (among_is (take place members) k
          (sym (ap (λ b. if b then true else among (take place members) k) (other_test k id other)) ∙ is)))
    ]

    more_is : (k : ℕ) → Contains (take (place + 1) members) k → more (among (take place members)) id k ≡ true
    more_is k has = elim (one_longer k has) [
      | inl same ↦ ap (λ b. if b then true else among (take place members) k) (same_id k id same)
      | inr before ↦ by_test (k == id) (is_among (take place members) k before)
    ]
      where
        by_test : (b : Bool) → among (take place members) k ≡ true
            → (if b then true else among (take place members) k) ≡ true
        by_test true is = refl
        by_test false is = is

    pub longer_is : (k : ℕ) → more (among (take place members)) id k ≡ among (take (place + 1) members) k
    longer_is k =
        both_ways (more (among (take place members)) id k) (among (take (place + 1) members) k)
        (λ is. is_among (take (place + 1) members) k (is_more k is))
        (λ is. more_is k (among_is (take (place + 1) members) k is))

    module _ (old mid : View) (takes : TakesThese scratch.marks (among (take place members)) old mid) where
      pub member_there : ((k : ℕ) → Marked scratch.marks k → IsSome (task_at old k)) → IsSome (task_at mid id)
      member_there live = subst IsSome
          (sym (untaken scratch.marks (among (take place members)) old mid mid takes id fresh member_marked))
          (live id member_marked)

      pub member_taken : (new : View) → TakesOne scratch.marks id mid new
          → TakesThese scratch.marks (among (take (place + 1) members)) old new
      member_taken new one =
          subst (λ these. TakesThese scratch.marks these old new) (λ i k. longer_is k i)
          (one_more scratch.marks (among (take place members)) old mid new takes id fresh member_marked one)

-- the members are the marked ids
pub all_among : (scratch : Scratch) (found : ℕ) → ListsMarked scratch found → (k : ℕ)
    → among (take found scratch.members) k ≡ is_marked scratch.marks k
all_among scratch found listed k =
    both_ways (among (take found scratch.members) k) (is_marked scratch.marks k)
    (λ is. (listed.marked k).1 (among_is (take found scratch.members) k is))
    (λ is. is_among (take found scratch.members) k ((listed.marked k).0 is))

-- all of them are taken back
pub members_taken : (scratch : Scratch) (found : ℕ) → ListsMarked scratch found → (place : ℕ) → place ≡ found
    → (old new : View) → TakesThese scratch.marks (among (take place scratch.members)) old new
    → TakesThese scratch.marks (is_marked scratch.marks) old new
members_taken scratch found listed place all old new takes =
    subst (λ these. TakesThese scratch.marks these old new) (λ i k. all_among scratch found listed k i)
    (subst (λ n. TakesThese scratch.marks (among (take n scratch.members)) old new) all takes)
