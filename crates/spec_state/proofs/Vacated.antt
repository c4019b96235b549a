-- A task that leaves its core or its commit queue: the lists still hold what they should.
use Rattle.std.proofs.Common.{◌≡◌, ◌≢◌, ◌⊎◌, ℕ, [], length, map, Some, None, refl, sym, ap, subst, ◌∙◌, inl, inr, arith}
use Rattle.std.proofs.Common.{slice_get, slice_index_or}
use Rattle.std.specs.Prelude.{Contains, ◌↔◌}
use Rattle.std.proofs.lemmas.Bool.{cases_eq}
use Rattle.tile_queues.specs.Queue.{ids_but}
use Rattle.tile_queues.proofs.Proved.{ids_but-absent}
use Rattle.spec_state.specs.declared.task.Status.{Status}
use Rattle.spec_state.specs.declared.task.Status.TheVariants.{Idle, Finished}
use Rattle.spec_state.specs.declared.task.Task.{Task}
use Rattle.spec_state.specs.Leaving.{freed_of, IsHeldAs, TaskLeaves, SetsBack}
use Rattle.spec_state.specs.Queries.{IsQueued}
use Rattle.spec_state.specs.Stored.{HasCore, HasTask, IsWellFormed, IsStored}
use Rattle.spec_state.specs.Tasks.{idle_again}
use Rattle.spec_state.specs.View.{View, task_at, queue_at, finished_at, cores_at}
use Rattle.spec_state.proofs.Without.{from_ids, in_ids, freed_back, freed_forth, freed_other, held_place, all_same}
use Rattle.spec_state.proofs.Without.{map_at}

-- where a task stands in a stored view: in the queue of its tile, and in its commit queue or on its core as its status says, and nowhere else
module _ (size : ℕ) (view : View) (stored : IsStored size view) (id : ℕ) (task : Task) (there : task_at view id ≡ Some task) where
  one_task : (other : Task) → task_at view id ≡ Some other → other ≡ task
  one_task other at = let both : Some other ≡ Some task = sym at ∙ there in cc

  own_tile : (kind : Status → Type 0) (tile : ℕ) → HasTask view tile id kind → (tile ≡ task.tile) × kind task.status
  own_tile kind tile is =
      let same = one_task is.0 is.1 in
      (sym is.2 ∙ ap (λ t. t.tile) same, subst (λ (t : Task). kind t.status) same is.3)

  pub own_queued : Contains (queue_at view task.tile) id
  own_queued = (stored.queued_are task.tile id).1 (task, there, refl, tt)

  pub others_without : (tile : ℕ) → tile ≢ task.tile → ids_but id (queue_at view tile) ≡ queue_at view tile
  others_without tile other =
      ids_but-absent id (queue_at view tile) (λ has. other (own_tile (λ status. Unit {0}) tile ((stored.queued_are tile id).0 has)).0)

  pub own_finished : Contains (finished_at view task.tile) id → task.status ≡ Finished
  own_finished has = (own_tile (λ status. status ≡ Finished) task.tile ((stored.finished_are task.tile id).0 has)).1

  pub others_finished : (tile : ℕ) → tile ≢ task.tile → ids_but id (finished_at view tile) ≡ finished_at view tile
  others_finished tile other =
      ids_but-absent id (finished_at view tile) (λ has. other (own_tile (λ status. status ≡ Finished) tile ((stored.finished_are tile id).0 has)).0)

  pub own_held : IsHeldAs id task.status (cores_at view task.tile)
  own_held core = (
    λ at. (own_tile (λ status. HasCore status core) task.tile ((stored.held_are task.tile core id).0 at)).1,
    λ has. (stored.held_are task.tile core id).1 (task, there, refl, has),
  )

  pub others_held : (tile : ℕ) → tile ≢ task.tile → map (freed_of id) (cores_at view tile) ≡ cores_at view tile
  others_held tile other =
      sym (all_same (freed_of id) (cores_at view tile) None
      (λ j. freed_other id (slice_index_or (cores_at view tile) j None)
      (λ own. other (own_tile (λ status. HasCore status j) tile ((stored.held_are tile j id).0 (held_place id (cores_at view tile) j own))).0)))

-- the task of one id has left its core and its commit queue, and all others are as they were
module _ (size : ℕ) (old new : View) (id : ℕ) (stored : IsStored size old) (others : (k : ℕ) → k ≢ id → task_at new k ≡ task_at old k)
    (finished : new.finished ≡ map (ids_but id) old.finished) (cores : new.cores ≡ map (map (freed_of id)) old.cores)
    (gone : (kind : Status → Type 0) → (kind Idle → ⊥) → (tile : ℕ) → HasTask new tile id kind → ⊥) where
  there_forth : (kind : Status → Type 0) (tile k : ℕ) → k ≢ id → HasTask old tile k kind → HasTask new tile k kind
  there_forth kind tile k other is = (is.0, others k other ∙ is.1, is.2, is.3)

  there_back : (kind : Status → Type 0) (tile k : ℕ) → k ≢ id → HasTask new tile k kind → HasTask old tile k kind
  there_back kind tile k other is = (is.0, sym (others k other) ∙ is.1, is.2, is.3)

  not_gone : (kind : Status → Type 0) → (kind Idle → ⊥) → (tile k : ℕ) → HasTask new tile k kind → k ≢ id
  not_gone kind none tile k is same = gone kind none tile (subst (λ j. HasTask new tile j kind) same is)

  finished_now : (tile : ℕ) → finished_at new tile ≡ ids_but id (finished_at old tile)
  finished_now tile = ap (λ lists. slice_index_or lists tile []) finished ∙ map_at (ids_but id) old.finished tile []

  cores_now : (tile : ℕ) → cores_at new tile ≡ map (freed_of id) (cores_at old tile)
  cores_now tile = ap (λ lists. slice_index_or lists tile []) cores ∙ map_at (map (freed_of id)) old.cores tile []

  pub finished_vacated : (tile k : ℕ)
      → Contains (finished_at new tile) k ↔ HasTask new tile k (λ status. status ≡ Finished)
  finished_vacated tile k = (
    λ has. (let was = from_ids id k (finished_at old tile) (subst (λ ids. Contains ids k) (finished_now tile) has) in
        there_forth (λ status. status ≡ Finished) tile k was.1 ((stored.finished_are tile k).0 was.0)),
    λ is. (let other = not_gone (λ status. status ≡ Finished) (λ same. cc) tile k is in
        subst (λ ids. Contains ids k) (sym (finished_now tile))
        (in_ids id k (finished_at old tile) other ((stored.finished_are tile k).1 (there_back (λ status. status ≡ Finished) tile k other is)))),
  )

  pub held_vacated : (tile core k : ℕ)
      → (slice_get (cores_at new tile) core ≡ Some (Some k)) ↔ HasTask new tile k (λ status. HasCore status core)
  held_vacated tile core k = (
    λ at. (let was = freed_back id k core (cores_at old tile) (subst (λ cores. slice_get cores core ≡ Some (Some k)) (cores_now tile) at) in
        there_forth (λ status. HasCore status core) tile k was.1 ((stored.held_are tile core k).0 was.0)),
    λ is. (let other = not_gone (λ status. HasCore status core) (λ none. none) tile k is in
        subst (λ cores. slice_get cores core ≡ Some (Some k)) (sym (cores_now tile))
        (freed_forth id k core (cores_at old tile) other ((stored.held_are tile core k).1 (there_back (λ status. HasCore status core) tile k other is)))),
  )

-- a task has left
module _ (size : ℕ) (old new : View) (id : ℕ) (leaves : TaskLeaves id old new) (stored : IsStored size old) where
  nothing_there : (tile : ℕ) (kind : Status → Type 0) → HasTask new tile id kind → ⊥
  nothing_there tile kind is = cc (is.1, leaves.changes.changed)

  queue_now : (tile : ℕ) → queue_at new tile ≡ ids_but id (queue_at old tile)
  queue_now tile = ap (λ lists. slice_index_or lists tile []) leaves.queues ∙ map_at (ids_but id) old.queues tile []

  queued_left : (tile k : ℕ) → IsQueued new tile k ↔ HasTask new tile k (λ status. Unit {0})
  queued_left tile k = (
    λ has. (let was = from_ids id k (queue_at old tile) (subst (λ ids. Contains ids k) (queue_now tile) has) in
        there_forth size old new id stored leaves.changes.others leaves.finished leaves.cores (λ kind none t is. nothing_there t kind is)
        (λ status. Unit {0}) tile k was.1 ((stored.queued_are tile k).0 was.0)),
    λ is. (let other : k ≢ id = λ same. nothing_there tile (λ status. Unit {0}) (subst (λ j. HasTask new tile j (λ status. Unit {0})) same is) in
        subst (λ ids. Contains ids k) (sym (queue_now tile))
        (in_ids id k (queue_at old tile) other ((stored.queued_are tile k).1 (is.0, sym (leaves.changes.others k other) ∙ is.1, is.2, tt)))),
  )

  formed_left : (k : ℕ) (t : Task) → task_at new k ≡ Some t → IsWellFormed size (length new.history) t
  formed_left k t at =
      let other : k ≢ id = λ same. cc (at, ap (task_at new) same, leaves.changes.changed) in
      subst (λ (v : View). IsWellFormed size (length v.history) t) (sym leaves.frame) (stored.tasks k t (sym (leaves.changes.others k other) ∙ at))

  pub stored_left : IsStored size new
  stored_left = record {
    queued_are = queued_left;
    finished_are =
        finished_vacated size old new id stored leaves.changes.others leaves.finished leaves.cores (λ kind none tile is. nothing_there tile kind is);
    held_are =
        held_vacated size old new id stored leaves.changes.others leaves.finished leaves.cores (λ kind none tile is. nothing_there tile kind is);
    tasks = formed_left;
    memory = ap (λ (v : View). length v.memory) leaves.frame ∙ stored.memory;
  }

-- a well-formed task is one when it is idle again
pub formed_again : (size commits version : ℕ) (task : Task) → IsWellFormed size commits task
    → IsWellFormed size commits (idle_again version task)
formed_again size commits version task is = record {
  depth = is.depth;
  kinds = is.kinds;
  inner = λ some. absurd (cc (some));
  children = omega arith;
  accesses = λ k d within. absurd (omega (arith, within));
  dispatched = refl;
  turn = is.turn;
}

-- a task is idle again
module _ (size : ℕ) (old new : View) (id : ℕ) (back : SetsBack id old new) (stored : IsStored size old) where
  now : Task
  now = idle_again old.version back.task

  is_now : (tile : ℕ) (kind : Status → Type 0) → HasTask new tile id kind → kind Idle
  is_now tile kind is =
      let both : Some is.0 ≡ Some (idle_again old.version back.task) = sym is.1 ∙ back.changes.changed in
      let same : is.0 ≡ idle_again old.version back.task = cc in
      subst (λ (t : Task). kind t.status) same is.3

  queue_same : (tile : ℕ) → queue_at new tile ≡ queue_at old tile
  queue_same tile = ap (λ v. queue_at v tile) back.frame

  queued_back : (tile k : ℕ) → IsQueued new tile k ↔ HasTask new tile k (λ status. Unit {0})
  queued_back tile k = (
    λ has. by_id_forth (cases_eq k id) ((stored.queued_are tile k).0 (subst (λ ids. Contains ids k) (queue_same tile) has)),
    λ is. subst (λ ids. Contains ids k) (sym (queue_same tile)) ((stored.queued_are tile k).1 (by_id_back (cases_eq k id) is)),
  )
    where
      by_id_forth : (k ≡ id) ⊎ (k ≢ id) → HasTask old tile k (λ status. Unit {0})
          → HasTask new tile k (λ status. Unit {0})
      by_id_forth (inr other) is = (is.0, back.changes.others k other ∙ is.1, is.2, tt)
      by_id_forth (inl same) is =
          let both : Some is.0 ≡ Some back.task = sym is.1 ∙ ap (task_at old) same ∙ back.there in
          let one : is.0 ≡ back.task = cc in
          (idle_again old.version back.task, ap (task_at new) same ∙ back.changes.changed, ap (λ (t : Task). t.tile) (sym one) ∙ is.2, tt)

      by_id_back : (k ≡ id) ⊎ (k ≢ id) → HasTask new tile k (λ status. Unit {0})
          → HasTask old tile k (λ status. Unit {0})
      by_id_back (inr other) is = (is.0, sym (back.changes.others k other) ∙ is.1, is.2, tt)
      by_id_back (inl same) is =
          let both : Some is.0 ≡ Some (idle_again old.version back.task) = sym is.1 ∙ ap (task_at new) same ∙ back.changes.changed in
          let one : is.0 ≡ idle_again old.version back.task = cc in
          (back.task, ap (task_at old) same ∙ back.there, ap (λ (t : Task). t.tile) (sym one) ∙ is.2, tt)

  formed_back : (k : ℕ) (t : Task) → task_at new k ≡ Some t → IsWellFormed size (length new.history) t
  formed_back k t at =
      subst (λ (v : View). IsWellFormed size (length v.history) t) (sym back.frame) (by_id (cases_eq k id))
    where
      by_id : (k ≡ id) ⊎ (k ≢ id) → IsWellFormed size (length old.history) t
      by_id (inr other) = stored.tasks k t (sym (back.changes.others k other) ∙ at)
      by_id (inl same) =
          let both : Some t ≡ Some (idle_again old.version back.task) = sym at ∙ ap (task_at new) same ∙ back.changes.changed in
          let one : t ≡ idle_again old.version back.task = cc in
          subst (IsWellFormed size (length old.history)) (sym one) (formed_again size (length old.history) old.version back.task (stored.tasks id back.task back.there))

  pub stored_back : IsStored size new
  stored_back = record {
    queued_are = queued_back;
    finished_are =
        finished_vacated size old new id stored back.changes.others back.finished back.cores (λ kind none tile is. none (is_now tile kind is));
    held_are =
        held_vacated size old new id stored back.changes.others back.finished back.cores (λ kind none tile is. none (is_now tile kind is));
    tasks = formed_back;
    memory = ap (λ (v : View). length v.memory) back.frame ∙ stored.memory;
  }
