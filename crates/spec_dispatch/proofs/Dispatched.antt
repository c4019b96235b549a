-- After a dispatch the lists hold what they should.
use Rattle.std.proofs.Common.{◌≡◌, ◌≢◌, ◌⊎◌, ◌+◌, ℕ, length, Some, None, refl, sym, ap, subst, ◌∙◌, inl, inr, slice_get}
use Rattle.std.proofs.lemmas.Bool.{cases_eq}
use Rattle.spec_state.specs.declared.task.Status.{Status}
use Rattle.spec_state.specs.declared.task.Status.TheVariants.{Idle, Running, Finished}
use Rattle.spec_state.specs.declared.task.Task.{Task}
use Rattle.spec_state.specs.View.{View, task_at, cores_at}
use Rattle.spec_state.specs.Changes.{Dispatches, with_core}
use Rattle.spec_state.specs.Stored.{HasCore, HasTask, IsWellFormed, IsStored}
use Rattle.spec_dispatch.specs.Started.{started_task}
use Rattle.spec_state.proofs.Proved.{holder_now, others_now, this_or_other}

module _ (old new : View) (tile : ℕ) (d : Dispatches tile old new) (size : ℕ) (stored : IsStored size old) where
  -- the view after the dispatch
  abbrev after : View
  after = record old { tasks = new.tasks; next = old.next + 1; cores = with_core old tile d.core (Some d.id) }

  -- the task as it is then
  abbrev now : Task
  now = started_task old.version d.core old.next d.task

  -- a task of this id was this one
  was_this : (k : ℕ) (t : Task) → k ≡ d.id → task_at old k ≡ Some t → t ≡ d.task
  was_this k t same there =
      let both : Some t ≡ Some d.task = sym there ∙ ap (task_at old) same ∙ d.least.idle.there in cc

  -- each task is the dispatched one, or was there
  which : (k : ℕ) (t : Task) → task_at new k ≡ Some t
      → ((k ≡ d.id) × (t ≡ now)) ⊎ ((k ≢ d.id) × (task_at old k ≡ Some t))
  which k t at = elim (cases_eq k d.id) [
    | inl same ↦ (let both : Some t ≡ Some now = sym at ∙ ap (task_at new) same ∙ d.changes.changed in let eq : t ≡ now = cc in inl (same, eq))
    | inr other ↦ inr (other, sym (d.changes.others k other) ∙ at)
  ]

  -- it is of this tile
  own_tile : d.task.tile ≡ tile
  own_tile =
      let has = (stored.queued_are tile d.id).0 d.least.idle.queued in
      sym (ap (λ t. t.tile) (was_this d.id has.0 refl has.1)) ∙ has.2

  -- a task whose status is none of an idle one is another one, and stays
  busy_stays : (kind : Status → Type 0) → (kind Idle → ⊥) → (at k : ℕ) → HasTask old at k kind → HasTask after at k kind
  busy_stays kind none at k has = (has.0, d.changes.others k other ∙ has.1, has.2, has.3)
    where
      other : k ≢ d.id
      other same = none (subst kind (ap (λ t. t.status) (was_this k has.0 same has.1) ∙ d.least.idle.idle) has.3)

  -- a task whose status is none of a running one was there
  not_started : (kind : Status → Type 0) → (kind (Running d.core) → ⊥) → (at k : ℕ) → HasTask after at k kind
      → HasTask old at k kind
  not_started kind none at k has = elim (which k has.0 has.1) [
    | inl here ↦ absurd (none (subst kind (ap (λ t. t.status) here.1) has.3))
    | inr there ↦ (has.0, there.1, has.2, has.3)
  ]

  -- each task is in its tile still
  queued_forth : (at k : ℕ) → HasTask old at k (λ status. Unit {0}) → HasTask after at k (λ status. Unit {0})
  queued_forth at k has = elim (cases_eq k d.id) [
    | inl same ↦ (now, ap (task_at new) same ∙ d.changes.changed, sym (ap (λ t. t.tile) (was_this k has.0 same has.1)) ∙ has.2, tt)
    | inr other ↦ (has.0, d.changes.others k other ∙ has.1, has.2, tt)
  ]

  -- and was so before
  queued_back : (at k : ℕ) → HasTask after at k (λ status. Unit {0}) → HasTask old at k (λ status. Unit {0})
  queued_back at k has = elim (which k has.0 has.1) [
    | inl here ↦ (d.task, ap (task_at old) here.0 ∙ d.least.idle.there, sym (ap (λ t. t.tile) here.1) ∙ has.2, tt)
    | inr there ↦ (has.0, there.1, has.2, tt)
  ]

  -- each core that is held is held by its task
  held_forth : (at c k : ℕ) → slice_get (cores_at after at) c ≡ Some (Some k)
      → HasTask after at k (λ status. HasCore status c)
  held_forth at c k held = elim (this_or_other at tile c d.core) [
    | inl this ↦
        let both : Some (Some k) ≡ Some (Some d.id) =
        sym held ∙ (λ i. slice_get (cores_at after (this.0 i)) (this.1 i))
        ∙ holder_now old tile d.core None (Some d.id) d.free.free in
        let same : k ≡ d.id = cc in
        (now, ap (task_at new) same ∙ d.changes.changed, own_tile ∙ sym this.0, sym this.1)
    | inr other ↦
        busy_stays (λ status. HasCore status c) (λ is. is) at k
        ((stored.held_are at c k).0 (sym (others_now old tile d.core None (Some d.id) d.free.free at c other) ∙ held))
  ]

  -- and each task that has a core holds it
  held_back : (at c k : ℕ) → HasTask after at k (λ status. HasCore status c)
      → slice_get (cores_at after at) c ≡ Some (Some k)
  held_back at c k has = elim (which k has.0 has.1) [
    | inl here ↦
        let here_tile : tile ≡ at = sym own_tile ∙ sym (ap (λ t. t.tile) here.1) ∙ has.2 in
        let here_core : d.core ≡ c = subst (λ t. HasCore t.status c) here.1 has.3 in
        sym (λ i. slice_get (cores_at after (here_tile i)) (here_core i))
        ∙ holder_now old tile d.core None (Some d.id) d.free.free
        ∙ ap (λ j. Some (Some j)) (sym here.0)
    | inr there ↦
        let held = (stored.held_are at c k).1 (has.0, there.1, has.2, has.3) in
        others_now old tile d.core None (Some d.id) d.free.free at c
        (λ same core. absurd (cc (sym held ∙ (λ i. slice_get (cores_at old (same i)) (core i)) ∙ d.free.free)))
        ∙ held
  ]

  -- it is well formed, as all others are
  formed : (k : ℕ) (t : Task) → task_at after k ≡ Some t → IsWellFormed size (length old.history) t
  formed k t at = elim (which k t at) [
    | inl here ↦
        let was = stored.tasks d.id d.task d.least.idle.there in
        subst (IsWellFormed size (length old.history)) (sym here.1)
        (record {
          depth = was.depth;
          kinds = was.kinds;
          inner = was.inner;
          children = was.children;
          accesses = was.accesses;
          dispatched = refl;
          turn = was.turn;
        })
    | inr there ↦ stored.tasks k t there.1
  ]

  is_after : new ≡ after
  is_after = d.frame ∙ (λ i. record old { tasks = new.tasks; next = d.next i; cores = d.cores i })

  pub stored_dispatched : IsStored size new
  stored_dispatched = subst (IsStored size) (sym is_after)
      (record {
        queued_are =
            λ at k. (λ has. queued_forth at k ((stored.queued_are at k).0 has), λ has. (stored.queued_are at k).1 (queued_back at k has));
        finished_are = λ at k. (
          λ has. busy_stays (λ status. status ≡ Finished) (λ is. absurd (cc (is))) at k ((stored.finished_are at k).0 has),
          λ has. (stored.finished_are at k).1 (not_started (λ status. status ≡ Finished) (λ is. absurd (cc (is))) at k has),
        );
        held_are = λ at c k. (held_forth at c k, held_back at c k);
        tasks = formed;
        memory = stored.memory;
      })
