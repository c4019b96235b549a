-- What filtering leaves of a list, and what stands at a place of a mapped one.
use Rattle.std.proofs.Common.{◌≡◌, ◌≤◌, ◌∷◌, ℕ, zero, suc, Bool, true, false, List, [], length, not, Option, Some, refl}
use Rattle.std.proofs.Common.{sym, ap, subst, ◌∙◌, arith, cond, map, slice_get, slice_index_or, is_some}
use Rattle.std.specs.Prelude.{Contains, filter}
use Rattle.std.proofs.lemmas.List.Elements.{All-contains, All-contains_itself, All-filter, filter_passes}
use Rattle.std.proofs.lemmas.List.Filters.{length-filter_both}
use Rattle.spec_state.specs.task_law.Room.{RoomTask, kept_by, queue_after}
use Rattle.spec_state.proofs.Proved.{in_tail}

-- no more is left than was there
pub filter_shorter : {X : Type 0} (p : X → Bool) (xs : List X) → length (filter p xs) ≤ length xs
filter_shorter p xs = omega (arith, length-filter_both p (λ x. not (p x)) (λ x. refl) xs)

-- what is left was there
pub filter_was : {X : Type 0} (p : X → Bool) (xs : List X) (x : X) → Contains (filter p xs) x → Contains xs x
filter_was p xs x has =
    All-contains (Contains xs) (filter p xs) x (All-filter p (Contains xs) xs (All-contains_itself xs)) has

-- what is left passes
pub filter_is : {X : Type 0} (p : X → Bool) (xs : List X) (x : X) → Contains (filter p xs) x → p x ≡ true
filter_is p xs x has = All-contains (λ y. p y ≡ true) (filter p xs) x (filter_passes p xs) has

-- what was there and passes is left
pub filter_leaves : {X : Type 0} (p : X → Bool) (xs : List X) (x : X) → Contains xs x → p x ≡ true
    → Contains (filter p xs) x
filter_leaves p [] x has passes = absurd (omega (arith, has.1))
filter_leaves p (y ∷ xs) x (zero, below, at) passes =
    subst (λ b. Contains (cond b (y ∷ filter p xs) (filter p xs)) x) (sym (ap p at ∙ passes)) (zero, omega arith, at)
filter_leaves p (y ∷ xs) x (suc k, below, at) passes = by_test (p y) (filter_leaves p xs x (k, omega arith, at) passes)
  where
    by_test : (b : Bool) → Contains (filter p xs) x → Contains (cond b (y ∷ filter p xs) (filter p xs)) x
    by_test true has = in_tail y (filter p xs) x has
    by_test false has = has

-- a queue without the ids of tasks that have gone is filtered by what is there
pub queue_filtered : (new : ℕ → Option RoomTask) (ids : List ℕ)
    → queue_after new ids ≡ filter (λ k. is_some (new k)) ids
queue_filtered new [] = refl
queue_filtered new (k ∷ ids) =
    by_kept (is_some (new k)) (queue_after new ids)
    ∙ ap (λ rest. cond (is_some (new k)) (k ∷ rest) rest) (queue_filtered new ids)
  where
    by_kept : (b : Bool) (rest : List ℕ) → kept_by b k rest ≡ cond b (k ∷ rest) rest
    by_kept true rest = refl
    by_kept false rest = refl

-- a list of a mapped list of lists
pub list_mapped : {X Y : Type 0} (f : List X → List Y) → f [] ≡ [] → (lists : List (List X)) (k : ℕ)
    → slice_index_or (map f lists) k [] ≡ f (slice_index_or lists k [])
list_mapped f none [] k = sym none
list_mapped f none (xs ∷ lists) zero = refl
list_mapped f none (xs ∷ lists) (suc k) = list_mapped f none lists k

-- what stands at a place of a mapped list
pub got_mapped : {X Y : Type 0} (f : X → Y) (xs : List X) (k : ℕ) (y : Y) → slice_get (map f xs) k ≡ Some y
    → (x : X) × (slice_get xs k ≡ Some x) × (y ≡ f x)
got_mapped f [] k y at = absurd (cc)
got_mapped f (x ∷ xs) zero y at = let same : f x ≡ y = cc in (x, refl, sym same)
got_mapped f (x ∷ xs) (suc k) y at = got_mapped f xs k y at

pub get_mapped : {X Y : Type 0} (f : X → Y) (xs : List X) (k : ℕ) (x : X) → slice_get xs k ≡ Some x
    → slice_get (map f xs) k ≡ Some (f x)
get_mapped f [] k x at = absurd (cc)
get_mapped f (z ∷ xs) zero x at = let same : z ≡ x = cc in ap (λ w. Some (f w)) same
get_mapped f (z ∷ xs) (suc k) x at = get_mapped f xs k x at
