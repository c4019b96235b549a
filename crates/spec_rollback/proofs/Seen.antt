-- Marks of the tasks with which an access conflicts, as they grow.
use Rattle.std.proofs.Common.{◌≡◌, ◌⊎◌, ◌+◌, ◌<◌, ◌≤◌, ℕ, Bool, true, false, List, [], Option, Some, None, refl}
use Rattle.std.proofs.Common.{zero, suc, sym, ap, subst, take, get_or, length-take, slice_index}
use Rattle.std.proofs.Common.{◌∙◌, inl, inr, arith, length, replicate, set, slice_index_or, slice_get, option_map}
use Rattle.std.specs.Prelude.{◌↔◌, Contains, IsSome, IfSome}
use Rattle.std.specs.List.Sorted.{IsPermutation}
use Rattle.std.proofs.lemmas.Bool.{cases_eq, cases_lt}
use Rattle.std.proofs.lemmas.List.{get_or_read, get_or-set_other, get_or-set_same, get_or-take, length-map}
use Rattle.std.proofs.lemmas.List.{length-replicate, length-set}
use Rattle.std.proofs.lemmas.List.Elements.{Contains-get_or}
use Rattle.std.proofs.lemmas.List.Sorted.{IsPermutation-sym, Contains-permutation}
use Rattle.std.proofs.lemmas.List.Sums.{count_by-le-length}
use Rattle.std.proofs.lemmas.Option.{slice_get-map}
use Rattle.abort_cascade.specs.Cascade.{Marked}
use Rattle.abort_cascade.specs.Growth.{IsListOf}
use Rattle.abort_cascade.proofs.Proved.{IsListOf-none, IsListOf-mark, listed_below, listed_front, unmarked}
use Rattle.spec_state.specs.declared.task.Task.{Task}
use Rattle.spec_state.specs.declared.task.TaskId.{TaskId}
use Rattle.spec_state.specs.View.{core_ids}
use Rattle.spec_rollback.specs.Marking.{IsBelow, IsSeen, IsInTile, IsInTiles, IsMarkedIfFound, IsListed, Finds}
use Rattle.spec_rollback.specs.Marking.{HoldTasks}

-- one id alone is marked and listed
pub alone_listed : (n id : ℕ) (members : List ℕ) → id < n → length members ≡ n
    → IsListOf (set (replicate n false) id true) (set members 0 id) 1
alone_listed n id members within same =
    IsListOf-mark (replicate n false) members 0 id (omega (arith, within, length-replicate n false))
    (omega (arith, within, same)) (unmarked n id) (IsListOf-none n members)

-- nothing is found among none
pub finds_none : (test : ℕ → Bool) (these : ℕ → Type 0) (found : ℕ) (marks : List Bool) (members : List ℕ)
    → IsListed found marks members → ((id : ℕ) → these id → test id ≡ true → ⊥)
    → Finds test these found marks members found marks members
finds_none test these found marks members listed none = record {
  exact = λ id. (λ is. inl is, λ either. elim either [ inl is ↦ is | inr here ↦ absurd (none id here.0 here.1) ]);
  size = refl;
  places = refl;
  listed = listed;
  stay = λ k below. refl;
  more = omega arith;
}

-- one id more is found, which is marked or is marked now
pub finds_marked : (id found : ℕ) (marks : List Bool) (members : List ℕ) → 0 < found → Marked marks id
    → IsListed found marks members → Finds (λ k. true) (λ k. k ≡ id) found marks members found marks members
finds_marked id found marks members some marked listed = record {
  exact = λ k. (
    λ is. inl is,
    λ either. elim either [
      | inl is ↦ is
      | inr here ↦ (some, subst (Marked marks) (sym here.0) marked)
    ],
  );
  size = refl;
  places = refl;
  listed = listed;
  stay = λ k below. refl;
  more = omega arith;
}

pub finds_first : (id : ℕ) (old new : List Bool) (before after : List ℕ) → ((k : ℕ) → Marked new k ↔ (k ≡ id))
    → IsListOf new after 1 → length new ≡ length old → length after ≡ length before
    → Finds (λ k. true) (λ k. k ≡ id) 0 old before 1 new after
finds_first id old new before after marks listed size places = record {
  exact = λ k. (
    λ is. inr ((marks k).0 is.1, refl),
    λ either. elim either [
      | inl was ↦ (let low = was.0 in absurd (omega (arith, low)))
      | inr here ↦ (omega arith, (marks k).1 here.0)
    ],
  );
  size = size;
  places = places;
  listed = λ _. listed;
  stay = λ k below. absurd (omega (arith, below));
  more = omega arith;
}

pub finds_new : (id found : ℕ) (marks : List Bool) (members : List ℕ) → 0 < found → id < length marks
    → length members ≡ length marks → slice_index_or marks id false ≡ false → IsListed found marks members
    → Finds (λ k. true) (λ k. k ≡ id) found marks members (found + 1) (set marks id true) (set members found id)
finds_new id found marks members some within same off listed =
    let inside : found < length members = omega (
      arith,
      listed_below marks members found id (listed some) within off,
      same,
    ) in
    record {
      exact = λ k. (to k, from k);
      size = length-set marks id true;
      places = length-set members found id;
      listed = λ _. IsListOf-mark marks members found id within inside off (listed some);
      stay = λ k below. get_or-set_other members found k id 0 (λ at. absurd (omega (arith, at, below)));
      more = omega arith;
    }
  where
    to : (k : ℕ) → IsMarkedIfFound (found + 1) (set marks id true) k
        → IsMarkedIfFound found marks k ⊎ ((k ≡ id) × (true ≡ true))
    to k is = elim (cases_eq k id) [
      | inl here ↦ inr (here, refl)
      | inr other ↦ inl (some, sym (get_or-set_other marks id k true false other) ∙ is.1)
    ]

    from : (k : ℕ) → IsMarkedIfFound found marks k ⊎ ((k ≡ id) × (true ≡ true))
        → IsMarkedIfFound (found + 1) (set marks id true) k
    from k (inl was) = elim (cases_eq k id) [
      | inl here ↦ (
        omega arith,
        subst (Marked (set marks id true)) (sym here) (get_or-set_same marks id true false within),
      )
      | inr other ↦ (omega arith, get_or-set_other marks id k true false other ∙ was.1)
    ]
    from k (inr here) =
        (omega arith, subst (Marked (set marks id true)) (sym here.0) (get_or-set_same marks id true false within))

-- what is found by one test among some, and then by one among others
pub finds_both : (first second third : ℕ → Bool) (these others all : ℕ → Type 0) (found mid now : ℕ)
    (old between new : List Bool) (before amid after : List ℕ)
    → Finds first these found old before mid between amid → Finds second others mid between amid now new after
    → ((id : ℕ) → (all id × (third id ≡ true)) ↔ ((these id × (first id ≡ true)) ⊎ (others id × (second id ≡ true))))
    → Finds third all found old before now new after
finds_both first second third these others all found mid now old between new before amid after one two both = record {
  exact = λ id. (to id, from id);
  size = two.size ∙ one.size;
  places = two.places ∙ one.places;
  listed = two.listed;
  stay = λ k below. two.stay k (omega (arith, below, one.more)) ∙ one.stay k below;
  more = omega (arith, one.more, two.more);
}
  where
    to : (id : ℕ) → IsMarkedIfFound now new id → IsMarkedIfFound found old id ⊎ (all id × (third id ≡ true))
    to id is = elim ((two.exact id).0 is) [
      | inl was ↦ elim ((one.exact id).0 was) [
        | inl before' ↦ inl before'
        | inr here ↦ inr ((both id).1 (inl here))
      ]
      | inr here ↦ inr ((both id).1 (inr here))
    ]

    from : (id : ℕ) → IsMarkedIfFound found old id ⊎ (all id × (third id ≡ true)) → IsMarkedIfFound now new id
    from id (inl was) = (two.exact id).1 (inl ((one.exact id).1 (inl was)))
    from id (inr here) = elim ((both id).0 here) [
      | inl is ↦ (two.exact id).1 (inl ((one.exact id).1 (inr is)))
      | inr is ↦ (two.exact id).1 (inr is)
    ]

-- the same by one test
pub finds_more : (test : ℕ → Bool) (these others all : ℕ → Type 0) (found mid now : ℕ) (old between new : List Bool)
    (before amid after : List ℕ)
    → Finds test these found old before mid between amid → Finds test others mid between amid now new after
    → ((id : ℕ) → all id ↔ (these id ⊎ others id)) → Finds test all found old before now new after
finds_more test these others all found mid now old between new before amid after one two both =
    finds_both test test test these others all found mid now old between new before amid after one two
    (λ id. (to id, from id))
  where
    to : (id : ℕ) → all id × (test id ≡ true) → (these id × (test id ≡ true)) ⊎ (others id × (test id ≡ true))
    to id is = elim ((both id).0 is.0) [ inl here ↦ inl (here, is.1) | inr here ↦ inr (here, is.1) ]

    from : (id : ℕ) → (these id × (test id ≡ true)) ⊎ (others id × (test id ≡ true)) → all id × (test id ≡ true)
    from id (inl here) = ((both id).1 (inl here.0), here.1)
    from id (inr here) = ((both id).1 (inr here.0), here.1)

-- where the test is told of one id alone, it is found as that
pub finds_that : (test : ℕ → Bool) (id found now : ℕ) (old new : List Bool) (before after : List ℕ) → test id ≡ true
    → Finds (λ k. true) (λ k. k ≡ id) found old before now new after
    → Finds test (λ k. k ≡ id) found old before now new after
finds_that test id found now old new before after is finds = record {
  exact = λ k. (
    λ marked. elim ((finds.exact k).0 marked) [
      | inl was ↦ inl was
      | inr here ↦ inr (here.0, ap test here.0 ∙ is)
    ],
    λ either. elim either [
      | inl was ↦ (finds.exact k).1 (inl was)
      | inr here ↦ (finds.exact k).1 (inr (here.0, refl))
    ],
  );
  size = finds.size;
  places = finds.places;
  listed = finds.listed;
  stay = finds.stay;
  more = finds.more;
}

-- one item more gives what it gives
pub seen_more : {X : Type 0} (of : X → Option ℕ) (items : List X) (n : ℕ) (item : X) → slice_get items n ≡ Some item
    → (id : ℕ)
    → IsSeen of items (n + 1) id ↔ (IsSeen of items n id ⊎ (of item ≡ Some id))
seen_more {X} of items n item at id = (to, from)
  where
    to : IsSeen of items (n + 1) id → IsSeen of items n id ⊎ (of item ≡ Some id)
    to seen = elim (cases_eq seen.0 n) [
      | inl same ↦ inr (
          let here : ◌≡◌ {A = Option (Option ℕ)} (Some (of item)) (Some (Some id)) =
          sym (ap (option_map of) (ap (slice_get items) same ∙ at)) ∙ seen.2 in
          cc
          )
      | inr other ↦ inl (seen.0, (let low = seen.1 in omega (arith, low, other)), seen.2)
    ]

    from : IsSeen of items n id ⊎ (of item ≡ Some id) → IsSeen of items (n + 1) id
    from (inl seen) = (seen.0, (let low = seen.1 in omega (arith, low)), seen.2)
    from (inr is) = (n, omega arith, ap (option_map of) at ∙ ap Some is)

-- one id more is below the next bound
pub below_more : (n id : ℕ) → IsBelow (n + 1) id ↔ (IsBelow n id ⊎ (id ≡ n))
below_more n id = (to, from)
  where
    to : IsBelow (n + 1) id → IsBelow n id ⊎ (id ≡ n)
    to below = elim (cases_eq id n) [ inl same ↦ inr same | inr other ↦ inl (omega (arith, below, other)) ]

    from : IsBelow n id ⊎ (id ≡ n) → IsBelow (n + 1) id
    from (inl below) = omega (arith, below)
    from (inr same) = omega (arith, same)

-- one id more of a list is seen
pub id_more : (ids : List ℕ) (n one : ℕ) → slice_get ids n ≡ Some one → (id : ℕ)
    → IsSeen Some ids (n + 1) id ↔ (IsSeen Some ids n id ⊎ (id ≡ one))
id_more ids n one at id = (
  λ seen. elim ((seen_more Some ids n one at id).0 seen) [ inl before ↦ inl before | inr last ↦ inr (cc) ],
  λ either. elim either [
    | inl before ↦ (seen_more Some ids n one at id).1 (inl before)
    | inr same ↦ (seen_more Some ids n one at id).1 (inr (ap Some (sym same)))
  ],
)

-- what is seen is found up to a later place too, where nothing up to there passes the test
pub finds_upto : {X : Type 0} (of : X → Option ℕ) (items : List X) (test : ℕ → Bool) (n m found now : ℕ)
    (old new : List Bool) (before after : List ℕ) → n ≤ m
    → ((place id : ℕ) → n ≤ place → place < m → option_map of (slice_get items place) ≡ Some (Some id)
    → test id ≡ false)
    → Finds test (IsSeen of items n) found old before now new after
    → Finds test (IsSeen of items m) found old before now new after
finds_upto {X} of items test n m found now old new before after up passed finds = record {
  exact = λ id. (to id, from id);
  size = finds.size;
  places = finds.places;
  listed = finds.listed;
  stay = finds.stay;
  more = finds.more;
}
  where
    to : (id : ℕ) → IsMarkedIfFound now new id
        → IsMarkedIfFound found old id ⊎ (IsSeen of items m id × (test id ≡ true))
    to id is = elim ((finds.exact id).0 is) [
      | inl was ↦ inl was
      | inr here ↦ inr ((here.0.0, (let low = here.0.1 in omega (arith, low, up)), here.0.2), here.1)
    ]

    from : (id : ℕ) → IsMarkedIfFound found old id ⊎ (IsSeen of items m id × (test id ≡ true))
        → IsMarkedIfFound now new id
    from id (inl was) = (finds.exact id).1 (inl was)
    from id (inr here) = elim (cases_lt here.0.0 n) [
      | inl low ↦ (finds.exact id).1 (inr ((here.0.0, low, here.0.2), here.1))
      | inr high ↦ absurd (cc (here.1, passed here.0.0 id high here.0.1 here.0.2))
    ]

-- one tile more holds what it holds
pub tiles_more : (cores : List (List (Option ℕ))) (finished : List (List ℕ)) (n : ℕ) (id : ℕ)
    → IsInTiles cores finished (n + 1) id ↔
    (IsInTiles cores finished n id ⊎ IsInTile (slice_index_or cores n []) (slice_index_or finished n []) id)
tiles_more cores finished n id = (
  λ is. elim (cases_eq is.0 n) [
    | inl same ↦ inr (subst (λ tile. IsInTile (slice_index_or cores tile []) (slice_index_or finished tile []) id)
        same is.2)
    | inr other ↦ inl (is.0, (let low = is.1 in omega (arith, low, other)), is.2)
  ],
  λ either. elim either [
    | inl is ↦ (is.0, (let low = is.1 in omega (arith, low)), is.2)
    | inr here ↦ (n, omega arith, here)
  ],
)

-- what cores hold is seen as their ids
seen_held : (cores : List (Option TaskId)) (n id : ℕ)
    → IsSeen (option_map (λ (t : TaskId). t.0)) cores n id ↔ IsSeen (λ one. one) (core_ids cores) n id
seen_held cores n id = (
  λ seen. (seen.0, seen.1, same seen.0 ∙ seen.2),
  λ seen. (seen.0, seen.1, sym (same seen.0) ∙ seen.2),
)
  where
    itself : (o : Option (Option ℕ)) → option_map (λ (one : Option ℕ). one) o ≡ o
    itself None = refl
    itself (Some one) = refl

    same : (place : ℕ) → option_map (λ (one : Option ℕ). one) (slice_get (core_ids cores) place)
        ≡ option_map (option_map (λ (t : TaskId). t.0)) (slice_get cores place)
    same place = ap (option_map (λ (one : Option ℕ). one))
        (slice_get-map (option_map (λ (t : TaskId). t.0)) cores place)
        ∙ itself (option_map (option_map (λ (t : TaskId). t.0)) (slice_get cores place))

-- a tile holds what its cores and its commit queue do
pub tile_both : (cores : List (Option TaskId)) (ids : List ℕ) (id : ℕ)
    → IsInTile (core_ids cores) ids id ↔
    (IsSeen (option_map (λ (t : TaskId). t.0)) cores (length cores) id ⊎ IsSeen Some ids (length ids) id)
tile_both cores ids id =
    subst (λ n. (IsSeen (λ one. one) (core_ids cores) n id ⊎ IsSeen Some ids (length ids) id) ↔
    (IsSeen (option_map (λ (t : TaskId). t.0)) cores (length cores) id ⊎ IsSeen Some ids (length ids) id))
    (sym (length-map cores (option_map (λ (t : TaskId). t.0)))) (
      λ either. elim either [ inl seen ↦ inl ((seen_held cores (length cores) id).1 seen) | inr seen ↦ inr seen ],
      λ either. elim either [ inl seen ↦ inl ((seen_held cores (length cores) id).0 seen) | inr seen ↦ inr seen ],
    )

-- one tile more holds what it holds, where these are its cores and its commit queue
pub tile_more : (cores : List (List (Option ℕ))) (finished : List (List ℕ)) (n : ℕ) (held : List (Option ℕ))
    (ids : List ℕ) → slice_index_or cores n [] ≡ held → slice_index_or finished n [] ≡ ids
    → (id : ℕ) → IsInTiles cores finished (n + 1) id ↔ (IsInTiles cores finished n id ⊎ IsInTile held ids id)
tile_more cores finished n held ids held_is ids_is id =
    subst (λ h. IsInTiles cores finished (n + 1) id ↔ (IsInTiles cores finished n id ⊎ IsInTile h ids id)) held_is
    (subst (λ q. IsInTiles cores finished (n + 1) id ↔
    (IsInTiles cores finished n id ⊎ IsInTile (slice_index_or cores n []) q id)) ids_is
    (tiles_more cores finished n id))

-- what an item gives is a task, where they all are
pub held_live : {X : Type 0} (of : X → Option ℕ) (items : List X) (tasks : List (Option Task)) (n : ℕ) (item : X)
    → HoldTasks of items tasks → n < length items → slice_get items n ≡ Some item
    → IfSome (of item) (λ id. IsSome (slice_index_or tasks id None))
held_live {X} of items tasks n item live within at = by_held (of item) refl
  where
    by_held : (held : Option ℕ) → of item ≡ held → IfSome held (λ id. IsSome (slice_index_or tasks id None))
    by_held None is = tt
    by_held (Some id) is = live id (n, within, ap (option_map of) at ∙ ap Some is)

-- of one tile, where all tiles hold tasks
pub tile_live : (cores : List (List (Option ℕ))) (finished : List (List ℕ)) (count n : ℕ) (tasks : List (Option Task))
    (held : List (Option TaskId)) (ids : List ℕ) → n < count → slice_index_or cores n [] ≡ core_ids held
    → slice_index_or finished n [] ≡ ids
    → ((id : ℕ) → IsInTiles cores finished count id → IsSome (slice_index_or tasks id None))
    → HoldTasks (option_map (λ (t : TaskId). t.0)) held tasks × HoldTasks Some ids tasks
tile_live cores finished count n tasks held ids within held_is ids_is live = (
  λ id seen. here id ((tile_both held ids id).1 (inl seen)),
  λ id seen. here id ((tile_both held ids id).1 (inr seen)),
)
  where
    here : (id : ℕ) → IsInTile (core_ids held) ids id → IsSome (slice_index_or tasks id None)
    here id is =
        let one = (tile_more cores finished n (core_ids held) ids held_is ids_is id).1 (inr is) in
        live id (one.0, (let low = one.1 in omega (arith, low, within)), one.2)

-- no more are listed than there are members
pub found_within : (found : ℕ) (marks : List Bool) (members : List ℕ) → IsListed found marks members
    → length members ≡ length marks → found ≤ length members
found_within zero marks members listed same = omega arith
found_within (suc found) marks members listed same =
    let size = (listed (omega arith)).size in
    let upto = count_by-le-length (λ (mark : Bool). mark) marks in
    omega (arith, size, upto, same)

-- a list of the marked ids in another order is one
pub listed_again : (marks : List Bool) (before after : List ℕ) (found : ℕ) → found ≤ length before
    → length after ≡ length before → IsPermutation (take found before) (take found after)
    → IsListOf marks before found → IsListOf marks after found
listed_again marks before after found within same permuted listed = record {
  marked = λ k below. (all_marked (get_or after k 0)).1
      (Contains-permutation (take found after) (take found before) (get_or after k 0)
      (IsPermutation-sym (take found before) (take found after) permuted) (in_front k below));
  all = λ node marked.
      let has = Contains-permutation (take found before) (take found after) node permuted
      ((all_marked node).0 marked) in
      let below : has.0 < found = (let low = has.1 in omega (arith, low, length-take found after)) in (
        has.0,
        below,
        sym (get_or_read after has.0 node (omega (arith, below, within, same))
            (sym has.2 ∙ get_or-take found after has.0 node below) 0),
      );
  size = listed.size;
}
  where
    all_marked : (node : ℕ) → Marked marks node ↔ Contains (take found before) node
    all_marked node = listed_front marks before found node within listed

    in_front : (k : ℕ) → k < found → Contains (take found after) (get_or after k 0)
    in_front k below = subst (Contains (take found after)) (get_or-take found after k 0 below)
        (Contains-get_or (take found after) k 0 (omega (arith, below, within, same, length-take found after)))

-- what is found is found in whatever order it is listed behind what was
pub finds_sorted : (test : ℕ → Bool) (these : ℕ → Type 0) (found now : ℕ) (old new : List Bool)
    (before after sorted : List ℕ) → now ≤ length after → length sorted ≡ length after
    → IsPermutation (take now after) (take now sorted)
    → ((k : ℕ) → k < found → slice_index sorted k ≡ slice_index after k)
    → Finds test these found old before now new after → Finds test these found old before now new sorted
finds_sorted test these found now old new before after sorted within same permuted stay finds = record {
  exact = finds.exact;
  size = finds.size;
  places = same ∙ finds.places;
  listed = λ some. listed_again new after sorted now within same permuted (finds.listed some);
  stay = λ k below. stay k below ∙ finds.stay k below;
  more = finds.more;
}
