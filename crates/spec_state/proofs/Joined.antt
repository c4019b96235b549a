-- A task that comes to be, idle, as the last one of its tile's queue: the lists still hold what they should.
use Rattle.std.proofs.Common.{◌≡◌, ◌≢◌, ◌<◌, ◌∷◌, ◌++◌, ℕ, List, [], length, map, Some, None, sym, ap, subst, ◌∙◌, inl}
use Rattle.std.proofs.Common.{inr, arith, slice_index_or}
use Rattle.std.specs.Prelude.{Contains, slice_set}
use Rattle.std.proofs.lemmas.Bool.{cases_eq, cases_lt}
use Rattle.std.proofs.lemmas.List.{get_or-map, map-set, get_or-set_same, get_or-set_other, get_or_past}
use Rattle.std.proofs.lemmas.List.Elements.{Contains-push, Contains-push_cases, Contains-append_left}
use Rattle.spec_state.specs.declared.task.Status.{Status}
use Rattle.spec_state.specs.declared.task.Status.TheVariants.{Idle, Finished}
use Rattle.spec_state.specs.declared.task.Task.{Task}
use Rattle.tile_queues.specs.Queue.{QueueValue}
use Rattle.spec_state.specs.View.{View, task_at, queue_at}
use Rattle.spec_state.specs.Queries.{IsQueued}
use Rattle.spec_state.specs.Stored.{HasCore, HasTask, IsWellFormed, IsStored}
use Rattle.spec_state.specs.Opening.{Adds}

-- what stands at a place of the lists of ids is what the queue there holds
pub ids_at : (queues : List QueueValue) (k : ℕ) (d : QueueValue) → k < length queues
    → slice_index_or (map (λ queue. queue.ids) queues) k [] ≡ (slice_index_or queues k d).ids
ids_at queues k d within = get_or-map (λ queue. queue.ids) queues k d [] within

-- nothing is contained past the end of the lists
pub within_lists : (lists : List (List ℕ)) (tile id : ℕ) → Contains (slice_index_or lists tile []) id
    → tile < length lists
within_lists lists tile id has = elim (cases_lt tile (length lists)) [
  | inl within ↦ within
  | inr past ↦
      let nothing : Contains [] id = subst (λ ids. Contains ids id) (get_or_past lists tile [] past) has in
      absurd (omega (arith, nothing.1))
]

module _ (old new : View) (id : ℕ) (task : Task) (adds : Adds id task old new) where
  -- a task that was there is there still, under another id
  pub other_id : (k : ℕ) (t : Task) → task_at old k ≡ Some t → k ≢ id
  other_id k t at same = absurd (cc (at, ap (task_at old) same, adds.vacant))

  pub still_there : (k : ℕ) (t : Task) → task_at old k ≡ Some t → task_at new k ≡ Some t
  still_there k t at = adds.changes.others k (other_id k t at) ∙ at

  -- under its own id the new task stands, and under any other what was there
  pub is_new : (k : ℕ) (t : Task) → k ≡ id → task_at new k ≡ Some t → t ≡ task
  is_new k t same at = let both : Some t ≡ Some task = sym at ∙ ap (task_at new) same ∙ adds.changes.changed in cc

  pub was_there : (k : ℕ) (t : Task) → k ≢ id → task_at new k ≡ Some t → task_at old k ≡ Some t
  was_there k t other at = sym (adds.changes.others k other) ∙ at

  -- it stands last in its tile's queue, and the others stay
  pub own_queue : task.tile < length old.queues → queue_at new task.tile ≡ queue_at old task.tile ++ id ∷ []
  own_queue within =
      ap (λ queues. slice_index_or queues task.tile []) adds.queues
      ∙ get_or-set_same old.queues task.tile (queue_at old task.tile ++ id ∷ []) [] within

  pub other_queue : (tile : ℕ) → tile ≢ task.tile → queue_at new tile ≡ queue_at old tile
  other_queue tile other =
      ap (λ queues. slice_index_or queues tile []) adds.queues
      ∙ get_or-set_other old.queues task.tile tile (queue_at old task.tile ++ id ∷ []) [] other

  module _ (size : ℕ) (stored : IsStored size old) (in_tiles : task.tile < length old.queues) (idle : task.status ≡ Idle)
      (formed : IsWellFormed size (length old.history) task) where
    -- a task whose status is of a kind stays
    has_forth : (kind : Status → Type 0) (tile k : ℕ) → HasTask old tile k kind → HasTask new tile k kind
    has_forth kind tile k has = (has.0, still_there k has.0 has.1, has.2, has.3)

    -- and was there, where that is no status of an idle one
    has_back : (kind : Status → Type 0) → (kind Idle → ⊥) → (tile k : ℕ) → HasTask new tile k kind
        → HasTask old tile k kind
    has_back kind none tile k has = elim (cases_eq k id) [
      | inl same ↦ absurd (none (subst kind (ap (λ t. t.status) (is_new k has.0 same has.1) ∙ idle) has.3))
      | inr other ↦ (has.0, was_there k has.0 other has.1, has.2, has.3)
    ]

    queued_forth : (tile k : ℕ) → IsQueued new tile k → HasTask new tile k (λ status. Unit {0})
    queued_forth tile k has = elim (cases_eq tile task.tile) [
      | inl own ↦
          let here : Contains (queue_at old task.tile ++ id ∷ []) k = subst (λ ids. Contains ids k) (own_queue in_tiles) (subst (λ n. Contains (queue_at new n) k) own has) in
          elim (Contains-push_cases (queue_at old task.tile) id k here) [
            | inl was ↦ has_forth (λ status. Unit {0}) tile k ((stored.queued_are tile k).0 (subst (λ n. Contains (queue_at old n) k) (sym own) was))
            | inr last ↦ (task, ap (task_at new) (sym last) ∙ adds.changes.changed, sym own, tt)
          ]
      | inr other ↦ has_forth (λ status. Unit {0}) tile k ((stored.queued_are tile k).0 (subst (λ ids. Contains ids k) (other_queue tile other) has))
    ]

    -- who stood in a queue stands there
    stays_queued : (tile k : ℕ) → Contains (queue_at old tile) k → Contains (queue_at new tile) k
    stays_queued tile k has = elim (cases_eq tile task.tile) [
      | inl own ↦
          subst (λ n. Contains (queue_at new n) k) (sym own)
          (subst (λ ids. Contains ids k) (sym (own_queue in_tiles))
          (Contains-append_left (queue_at old task.tile) (id ∷ []) k (subst (λ n. Contains (queue_at old n) k) own has)))
      | inr other ↦ subst (λ ids. Contains ids k) (sym (other_queue tile other)) has
    ]

    queued_back : (tile k : ℕ) → HasTask new tile k (λ status. Unit {0}) → IsQueued new tile k
    queued_back tile k has = elim (cases_eq k id) [
      | inl same ↦
          let own : task.tile ≡ tile = ap (λ t. t.tile) (sym (is_new k has.0 same has.1)) ∙ has.2 in
          subst (λ n. Contains (queue_at new n) k) own
          (subst (λ ids. Contains ids k) (sym (own_queue in_tiles)) (subst (Contains (queue_at old task.tile ++ id ∷ [])) (sym same) (Contains-push (queue_at old task.tile) id)))
      | inr other ↦ stays_queued tile k ((stored.queued_are tile k).1 (has.0, was_there k has.0 other has.1, has.2, tt))
    ]

    formed_all : (k : ℕ) (t : Task) → task_at new k ≡ Some t → IsWellFormed size (length old.history) t
    formed_all k t at = elim (cases_eq k id) [
      | inl same ↦ subst (IsWellFormed size (length old.history)) (sym (is_new k t same at)) formed
      | inr other ↦ stored.tasks k t (was_there k t other at)
    ]

    pub stored_added : IsStored size new
    stored_added = subst (IsStored size) (sym adds.frame)
        (record {
          queued_are = λ tile k. (queued_forth tile k, queued_back tile k);
          finished_are = λ tile k. (
            λ has. has_forth (λ status. status ≡ Finished) tile k ((stored.finished_are tile k).0 has),
            λ has. (stored.finished_are tile k).1 (has_back (λ status. status ≡ Finished) (λ is. absurd (cc (is))) tile k has),
          );
          held_are = λ tile core k. (
            λ held. has_forth (λ status. HasCore status core) tile k ((stored.held_are tile core k).0 held),
            λ has. (stored.held_are tile core k).1 (has_back (λ status. HasCore status core) (λ is. is) tile k has),
          );
          tasks = formed_all;
          memory = stored.memory;
        })

-- an id that is no task's stands in no queue
pub not_queued : (size : ℕ) (view : View) (tile id : ℕ) → IsStored size view → task_at view id ≡ None
    → Contains (queue_at view tile) id → ⊥
not_queued size view tile id stored vacant has =
    let there = (stored.queued_are tile id).0 has in absurd (cc (there.1, vacant))

-- the lists of ids with one more id in the queue of a tile
pub queued : (queues : List QueueValue) (tile id : ℕ) (queue after : QueueValue) → tile < length queues
    → queue ≡ slice_index_or queues tile queue
    → after.ids ≡ queue.ids ++ id ∷ []
    → map (λ q. q.ids) (slice_set queues tile after) ≡ slice_set (map (λ q. q.ids) queues) tile (slice_index_or (map (λ q. q.ids) queues) tile [] ++ id ∷ [])
queued queues tile id queue after within is ids =
    let before : slice_index_or (map (λ q. q.ids) queues) tile [] ≡ queue.ids = ids_at queues tile queue within ∙ ap (λ q. q.ids) (sym is) in
    let now : after.ids ≡ slice_index_or (map (λ q. q.ids) queues) tile [] ++ id ∷ [] = ids ∙ ap (λ xs. xs ++ id ∷ []) (sym before) in
    map-set (λ q. q.ids) queues tile after ∙ ap (slice_set (map (λ q. q.ids) queues) tile) now
