-- What a queue holds once some of its tasks are gone, and once one more stands in it.
use Rattle.std.proofs.Common.{ℕ, zero, suc, ◌≡◌, ◌≢◌, ◌<◌, ◌≤◌, ◌⊎◌, inl, inr, Bool, true, false, cond, List, [], ◌∷◌}
use Rattle.std.proofs.Common.{◌++◌, Option, refl, sym, ap, subst, ◌∙◌, arith}
use Rattle.std.specs.Prelude.{length, slice_index_or, slice_set, map, is_some, Contains}
use Rattle.std.specs.List.{filter, AllPairs}
use Rattle.std.proofs.lemmas.Bool.{cases_eq, cases_lt}
use Rattle.std.proofs.lemmas.List.{get_or-set_same, get_or-set_other, set_past}
use Rattle.std.proofs.lemmas.List.Elements.{Contains-push, Contains-push_cases, Contains-append_left}
use Rattle.std.proofs.lemmas.List.Kept.{AllPairs-filter}
use Rattle.event_def.specs.task_law.Room.{RoomTask, kept_by, queue_after}
use Rattle.event_def.proofs.Below.spec_state.Proved.{head_or_tail, in_tail}

here : (x : ℕ) (xs : List ℕ) (id : ℕ) → x ≡ id → Contains (x ∷ xs) id
here x xs id is = (0, omega arith, is)

module _ (tasks : ℕ → Option RoomTask) where
  -- a queue without the ids of tasks that have gone is what a filter keeps of it
  kept_is : (queue : List ℕ) → queue_after tasks queue ≡ filter (λ k. is_some (tasks k)) queue
  kept_is [] = refl
  kept_is (k ∷ ks) = by_case (is_some (tasks k)) (kept_is ks)
    where
      by_case : (b : Bool) → queue_after tasks ks ≡ filter (λ j. is_some (tasks j)) ks
          → kept_by b k (queue_after tasks ks) ≡ cond b (k ∷ filter (λ j. is_some (tasks j)) ks) (filter (λ j. is_some (tasks j)) ks)
      by_case true same = ap (λ rest. k ∷ rest) same
      by_case false same = same

  -- what stands there stood there before
  pub kept_was : (queue : List ℕ) (id : ℕ) → Contains (queue_after tasks queue) id → Contains queue id
  kept_was [] id c = c
  kept_was (k ∷ ks) id c = by_case (is_some (tasks k)) c (kept_was ks id)
    where
      by_case : (b : Bool) → Contains (kept_by b k (queue_after tasks ks)) id
          → (Contains (queue_after tasks ks) id → Contains ks id) → Contains (k ∷ ks) id
      by_case true there rest =
          elim (head_or_tail k (queue_after tasks ks) id there) [ inl is ↦ here k ks id is | inr more ↦ in_tail k ks id (rest more) ]
      by_case false there rest = in_tail k ks id (rest there)

  -- and a task that is there stands there still
  pub kept_stays : (queue : List ℕ) (id : ℕ) → Contains queue id → is_some (tasks id) ≡ true
      → Contains (queue_after tasks queue) id
  kept_stays [] id c some = c
  kept_stays (k ∷ ks) id c some =
      by_case (is_some (tasks k)) refl (head_or_tail k ks id c) (λ more. kept_stays ks id more some)
    where
      by_case : (b : Bool) → is_some (tasks k) ≡ b → (k ≡ id) ⊎ Contains ks id
          → (Contains ks id → Contains (queue_after tasks ks) id)
          → Contains (kept_by b k (queue_after tasks ks)) id
      by_case true is (inl same) rest = here k (queue_after tasks ks) id same
      by_case true is (inr more) rest = in_tail k (queue_after tasks ks) id (rest more)
      by_case false is (inl same) rest =
          let no_way : false ≡ true = sym is ∙ (ap (λ j. is_some (tasks j)) same ∙ some) in
          absurd (cc (no_way))
      by_case false is (inr more) rest = rest more

  -- what stands there is a task's
  pub kept_there : (queue : List ℕ) (id : ℕ) → Contains (queue_after tasks queue) id → is_some (tasks id) ≡ true
  kept_there [] id c = absurd (omega (arith, c.1))
  kept_there (k ∷ ks) id c = by_case (is_some (tasks k)) refl c (kept_there ks id)
    where
      by_case : (b : Bool) → is_some (tasks k) ≡ b → Contains (kept_by b k (queue_after tasks ks)) id
          → (Contains (queue_after tasks ks) id → is_some (tasks id) ≡ true)
          → is_some (tasks id) ≡ true
      by_case true is there rest = elim (head_or_tail k (queue_after tasks ks) id there) [
        | inl same ↦ ap (λ j. is_some (tasks j)) (sym same) ∙ is
        | inr more ↦ rest more
      ]
      by_case false is there rest = rest there

  -- it is no longer than before
  pub kept_few : (queue : List ℕ) → length (queue_after tasks queue) ≤ length queue
  kept_few [] = omega arith
  kept_few (k ∷ ks) = by_case (is_some (tasks k)) (kept_few ks)
    where
      by_case : (b : Bool) → length (queue_after tasks ks) ≤ length ks
          → length (kept_by b k (queue_after tasks ks)) ≤ length (k ∷ ks)
      by_case true few = omega (arith, few)
      by_case false few = omega (arith, few)

  -- where a task has gone it is shorter
  pub kept_fewer : (queue : List ℕ) (id : ℕ) → Contains queue id → is_some (tasks id) ≡ false
      → length (queue_after tasks queue) < length queue
  kept_fewer [] id c gone = absurd (omega (arith, c.1))
  kept_fewer (k ∷ ks) id c gone =
      by_case (is_some (tasks k)) refl (head_or_tail k ks id c) (λ more. kept_fewer ks id more gone) (kept_few ks)
    where
      by_case : (b : Bool) → is_some (tasks k) ≡ b → (k ≡ id) ⊎ Contains ks id
          → (Contains ks id → length (queue_after tasks ks) < length ks)
          → length (queue_after tasks ks) ≤ length ks → length (kept_by b k (queue_after tasks ks)) < length (k ∷ ks)
      by_case true is (inl same) rest few =
          let no_way : true ≡ false = sym is ∙ (ap (λ j. is_some (tasks j)) same ∙ gone) in
          absurd (cc (no_way))
      by_case true is (inr more) rest few = let fewer = rest more in omega (arith, fewer)
      by_case false is either rest few = omega (arith, few)

  -- its ids differ as before
  pub kept_distinct : (queue : List ℕ) → AllPairs (λ a b. a ≢ b) queue
      → AllPairs (λ a b. a ≢ b) (queue_after tasks queue)
  kept_distinct queue distinct =
      subst (AllPairs (λ a b. a ≢ b)) (sym (kept_is queue)) (AllPairs-filter (λ a b. a ≢ b) (λ k. is_some (tasks k)) queue distinct)

  -- the queue of a tile after all queues have changed so
  pub kept_at : (queues : List (List ℕ)) (tile : ℕ)
      → slice_index_or (map (queue_after tasks) queues) tile [] ≡ queue_after tasks (slice_index_or queues tile [])
  kept_at [] tile = refl
  kept_at (queue ∷ queues) zero = refl
  kept_at (queue ∷ queues) (suc tile) = kept_at queues tile

-- the queue of a tile once an id has come to the end of that of another or the same tile
module _ (queues : List (List ℕ)) (at id : ℕ) where
  -- what stands in it is this id or stood there before
  pub last_was : (tile k : ℕ)
      → Contains (slice_index_or (slice_set queues at (slice_index_or queues at [] ++ id ∷ [])) tile []) k
      → Contains (slice_index_or queues tile []) k ⊎ ((tile ≡ at) × (k ≡ id))
  last_was tile k c = by_tile (cases_eq tile at) (cases_lt at (length queues))
    where
      by_tile : (tile ≡ at) ⊎ (tile ≡ at → ⊥) → (at < length queues) ⊎ (length queues ≤ at)
          → Contains (slice_index_or queues tile []) k ⊎ ((tile ≡ at) × (k ≡ id))
      by_tile (inl same) (inl within) =
          let there : Contains (slice_index_or queues at [] ++ id ∷ []) k =
          subst (λ (q : List ℕ). Contains q k) (ap (λ t. slice_index_or (slice_set queues at (slice_index_or queues at [] ++ id ∷ [])) t []) same ∙ get_or-set_same queues at (slice_index_or queues at [] ++ id ∷ []) [] within) c in
          elim (Contains-push_cases (slice_index_or queues at []) id k there) [
            | inl was ↦ inl (subst (λ t. Contains (slice_index_or queues t []) k) (sym same) was)
            | inr is ↦ inr (same, sym is)
          ]
      by_tile (inl same) (inr past) =
          inl (subst (λ (qs : List (List ℕ)). Contains (slice_index_or qs tile []) k) (set_past queues at (slice_index_or queues at [] ++ id ∷ []) past) c)
      by_tile (inr other) either =
          inl (subst (λ (q : List ℕ). Contains q k) (get_or-set_other queues at tile (slice_index_or queues at [] ++ id ∷ []) [] other) c)

  -- this id stands in it
  pub last_is : at < length queues
      → Contains (slice_index_or (slice_set queues at (slice_index_or queues at [] ++ id ∷ [])) at []) id
  last_is within =
      subst (λ (q : List ℕ). Contains q id) (sym (get_or-set_same queues at (slice_index_or queues at [] ++ id ∷ []) [] within)) (Contains-push (slice_index_or queues at []) id)

  -- and what stood there stays
  pub last_stays : (tile k : ℕ) → Contains (slice_index_or queues tile []) k
      → Contains (slice_index_or (slice_set queues at (slice_index_or queues at [] ++ id ∷ [])) tile []) k
  last_stays tile k c = by_tile (cases_eq tile at) (cases_lt at (length queues))
    where
      by_tile : (tile ≡ at) ⊎ (tile ≡ at → ⊥) → (at < length queues) ⊎ (length queues ≤ at)
          → Contains (slice_index_or (slice_set queues at (slice_index_or queues at [] ++ id ∷ [])) tile []) k
      by_tile (inl same) (inl within) =
          subst (λ (q : List ℕ). Contains q k) (sym (ap (λ t. slice_index_or (slice_set queues at (slice_index_or queues at [] ++ id ∷ [])) t []) same ∙ get_or-set_same queues at (slice_index_or queues at [] ++ id ∷ []) [] within))
          (Contains-append_left (slice_index_or queues at []) (id ∷ []) k (subst (λ t. Contains (slice_index_or queues t []) k) same c))
      by_tile (inl same) (inr past) =
          subst (λ (qs : List (List ℕ)). Contains (slice_index_or qs tile []) k) (sym (set_past queues at (slice_index_or queues at [] ++ id ∷ []) past)) c
      by_tile (inr other) either =
          subst (λ (q : List ℕ). Contains q k) (sym (get_or-set_other queues at tile (slice_index_or queues at [] ++ id ∷ []) [] other)) c
