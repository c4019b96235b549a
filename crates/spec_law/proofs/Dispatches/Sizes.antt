-- A dispatch keeps the group of sizes.
use Rattle.std.proofs.Common.{◌≡◌, ◌≢◌, ◌<◌, ◌≤◌, ◌^◌, ℕ, length, Some, None, refl, sym, ap, subst, ◌∙◌, inl, inr}
use Rattle.std.proofs.Common.{slice_get}
use Rattle.std.proofs.lemmas.Bool.{cases_eq}
use Rattle.std.proofs.lemmas.List.{length-set}
use Rattle.spec_state.specs.declared.emitted.TheConstants.{MAX_EMITTED}
use Rattle.spec_state.specs.declared.task.Status.{Status}
use Rattle.spec_state.specs.declared.task.Status.TheVariants.{Idle, Running, Finished}
use Rattle.spec_state.specs.View.{View, task_at, cores_at}
use Rattle.spec_state.specs.Tasks.{depth_of}
use Rattle.spec_state.specs.Changes.{Dispatches}
use Rattle.spec_law.specs.Sound.{SoundSizes}
use Rattle.spec_state.proofs.Proved.{holder_now, others_now, counts_now, this_or_other}
use Rattle.spec_state.specs.Stored.{HasCore, HasTask}
use Rattle.spec_law.proofs.Dispatches.One.{after, now, was, was_this, which, each_after}

module _ (old new : View) (tile : ℕ) (d : Dispatches tile old new) (sizes : SoundSizes old) where
  -- the dispatched task is of this tile
  own_tile : d.task.tile ≡ tile
  own_tile =
      let has = (sizes.queued_are tile d.id).0 d.least.idle.queued in
      sym (ap (λ t. t.tile) (was_this old new tile d d.id has.0 refl has.1)) ∙ has.2

  -- a task whose status is none of an idle one is another one, and stays
  busy_stays : (kind : Status → Type 0) → (kind Idle → ⊥) → (at k : ℕ) → HasTask old at k kind
      → (k ≢ d.id) × HasTask (after old new tile d) at k kind
  busy_stays kind none at k has = (other, (has.0, d.changes.others k other ∙ has.1, has.2, has.3))
    where
      other : k ≢ d.id
      other same =
          none (subst kind (ap (λ t. t.status) (was_this old new tile d k has.0 same has.1) ∙ d.least.idle.idle) has.3)

  -- a task whose status is none of a running one was there
  not_started : (kind : Status → Type 0) → (kind (Running d.core) → ⊥) → (at k : ℕ)
      → HasTask (after old new tile d) at k kind → HasTask old at k kind
  not_started kind none at k has = elim (which old new tile d k has.0 has.1) [
    | inl here ↦ absurd (none (subst kind (ap (λ t. t.status) here.1) has.3))
    | inr there ↦ (has.0, there.1, has.2, has.3)
  ]

  -- each task is in its tile still
  queued_forth : (at k : ℕ) → HasTask old at k (λ status. Unit {0})
      → HasTask (after old new tile d) at k (λ status. Unit {0})
  queued_forth at k has = elim (cases_eq k d.id) [
    | inl same ↦
        (now old new tile d, ap (task_at new) same ∙ d.changes.changed, sym (ap (λ t. t.tile) (was_this old new tile d k has.0 same has.1)) ∙ has.2, tt)
    | inr other ↦ (has.0, d.changes.others k other ∙ has.1, has.2, tt)
  ]

  -- and was so before
  queued_back : (at k : ℕ) → HasTask (after old new tile d) at k (λ status. Unit {0})
      → HasTask old at k (λ status. Unit {0})
  queued_back at k has = elim (which old new tile d k has.0 has.1) [
    | inl here ↦ (d.task, ap (task_at old) here.0 ∙ was old new tile d, sym (ap (λ t. t.tile) here.1) ∙ has.2, tt)
    | inr there ↦ (has.0, there.1, has.2, tt)
  ]

  -- each core that is held is held by its task
  held_forth : (at c k : ℕ) → slice_get (cores_at (after old new tile d) at) c ≡ Some (Some k)
      → HasTask (after old new tile d) at k (λ status. HasCore status c)
  held_forth at c k held = elim (this_or_other at tile c d.core) [
    | inl this ↦
        let both : Some (Some k) ≡ Some (Some d.id) =
        sym held ∙ (λ i. slice_get (cores_at (after old new tile d) (this.0 i)) (this.1 i))
        ∙ holder_now old tile d.core None (Some d.id) d.free.free
        in
        let same : k ≡ d.id = cc in
        (now old new tile d, ap (task_at new) same ∙ d.changes.changed, own_tile ∙ sym this.0, sym this.1)
    | inr other ↦
        (busy_stays (λ status. HasCore status c) (λ is. is) at k
        ((sizes.held_are at c k).0 (sym (others_now old tile d.core None (Some d.id) d.free.free at c other) ∙ held))).1
  ]

  -- and each task that has a core holds it
  held_back : (at c k : ℕ) → HasTask (after old new tile d) at k (λ status. HasCore status c)
      → slice_get (cores_at (after old new tile d) at) c ≡ Some (Some k)
  held_back at c k has = elim (which old new tile d k has.0 has.1) [
    | inl here ↦
        let here_tile : tile ≡ at = sym own_tile ∙ sym (ap (λ t. t.tile) here.1) ∙ has.2 in
        let here_core : d.core ≡ c = subst (λ t. HasCore t.status c) here.1 has.3 in
        sym (λ i. slice_get (cores_at (after old new tile d) (here_tile i)) (here_core i))
        ∙ holder_now old tile d.core None (Some d.id) d.free.free
        ∙ ap (λ j. Some (Some j)) (sym here.0)
    | inr there ↦
        let held = (sizes.held_are at c k).1 (has.0, there.1, has.2, has.3) in
        others_now old tile d.core None (Some d.id) d.free.free at c
        (λ same core. absurd (cc (sym held ∙ (λ i. slice_get (cores_at old (same i)) (core i)) ∙ d.free.free)))
        ∙ held
  ]

  -- a dispatch keeps the group of sizes
  pub dispatched_sizes : SoundSizes (after old new tile d)
  dispatched_sizes =
      record {
        settings = sizes.settings;
        queues = sizes.queues;
        finished = sizes.finished;
        cores = length-set old.cores tile _ ∙ sizes.cores;
        blocks = sizes.blocks;
        task_queues = sizes.task_queues;
        commit_queues = sizes.commit_queues;
        core_counts = counts_now old tile d.core None (Some d.id) d.free.free old.settings.cores sizes.core_counts;
        queued_are =
            λ at k. (λ has. queued_forth at k ((sizes.queued_are at k).0 has), λ has. (sizes.queued_are at k).1 (queued_back at k has));
        finished_are = λ at k. (
          λ has. (busy_stays (λ status. status ≡ Finished) (λ is. absurd (cc (is))) at k ((sizes.finished_are at k).0 has)).1,
          λ has. (sizes.finished_are at k).1 (not_started (λ status. status ≡ Finished) (λ is. absurd (cc (is))) at k has),
        );
        held_are = λ at c k. (held_forth at c k, held_back at c k);
        kinds =
            each_after old new tile d (λ k t. t.kinds < 2 ^ depth_of t) (sizes.kinds d.id d.task (was old new tile d)) (λ k t other there. sizes.kinds k t there);
        bytes =
            each_after old new tile d (λ k t. length t.bytes ≤ MAX_EMITTED) (sizes.bytes d.id d.task (was old new tile d)) (λ k t other there. sizes.bytes k t there);
        spilled = sizes.spilled;
      }
