-- A step of one task keeps the group of sizes, where commit queues and cores hold what they may, and the task has no
-- more bytes than it may.
use Rattle.std.proofs.Common.{◌≡◌, ◌≤◌, ◌<◌, ◌^◌, ℕ, [], length, Some, sym, ap, subst, ◌∙◌, inl, inr, slice_get}
use Rattle.std.proofs.Common.{slice_index_or}
use Rattle.std.specs.Prelude.{◌↔◌, All, Contains}
use Rattle.std.proofs.lemmas.Bool.{cases_eq}
use Rattle.tile_queues.specs.Queue.{AreDistinct}
use Rattle.spec_state.specs.declared.emitted.TheConstants.{MAX_EMITTED}
use Rattle.spec_state.specs.declared.task.Status.{Status}
use Rattle.spec_state.specs.declared.task.Status.TheVariants.{Finished}
use Rattle.spec_state.specs.declared.task.Task.{Task}
use Rattle.spec_state.specs.View.{View, task_at, finished_at, cores_at}
use Rattle.spec_state.specs.Tasks.{depth_of}
use Rattle.spec_state.specs.Stored.{HasCore, HasTask}
use Rattle.spec_law.specs.Sound.{SoundSizes}
use Rattle.spec_law.proofs.Steps.One.{StepsOne, each_stepped, origin, stepped_to, stepped_task}

-- the commit queues and the cores of a view hold its finished tasks and those on cores, and no more than they may
pub record FitsLists (view : View) : Type 0 where
  pub finished : length view.finished ≡ view.settings.tiles
  pub cores : length view.cores ≡ view.settings.tiles
  pub commit_queues : All (λ ids. (length ids ≤ view.settings.commit_queue) × AreDistinct ids) view.finished
  pub core_counts : All (λ held. length held ≡ view.settings.cores) view.cores
  pub finished_are : (tile id : ℕ)
      → Contains (finished_at view tile) id ↔ HasTask view tile id (λ status. status ≡ Finished)
  pub held_are : (tile core id : ℕ)
      → (slice_get (cores_at view tile) core ≡ Some (Some id)) ↔ HasTask view tile id (λ status. HasCore status core)

module _ (old new : View) (id : ℕ) (task behind : Task) (step : StepsOne old new id task behind) where
  -- a task whose status is of a kind has such a one still, where that is kept of the changed one
  pub has_forth : (kind : Status → Type 0) → (kind task.status → kind behind.status) → (tile k : ℕ)
      → HasTask old tile k kind → HasTask (stepped_to old new) tile k kind
  has_forth kind this tile k (x, at, in_tile, is) = elim (cases_eq k id) [
    | inl same_id ↦
        let both : Some x ≡ Some task = sym at ∙ ap (task_at old) same_id ∙ step.there in
        let same : x ≡ task = cc in
        (stepped_task task behind, ap (task_at new) same_id ∙ step.changes.changed, ap (λ t. t.tile) (sym same) ∙ in_tile, this (subst (λ t. kind t.status) same is))
    | inr other ↦ (x, step.changes.others k other ∙ at, in_tile, is)
  ]

  -- and had one
  pub has_back : (kind : Status → Type 0) → (kind behind.status → kind task.status) → (tile k : ℕ)
      → HasTask (stepped_to old new) tile k kind → HasTask old tile k kind
  has_back kind this tile k (t, at, in_tile, is) =
      each_stepped old new id (stepped_task task behind) step.changes (λ j z. z.tile ≡ tile → kind z.status → HasTask old tile j kind)
      (λ j z other there in_this is_this. (z, there, in_this, is_this)) (λ in_this is_this. (task, step.there, in_this, this is_this)) k t at in_tile is

  -- lists that stay hold the same tasks, where the task is finished or on a core as before
  pub lists_stay : SoundSizes old → new.finished ≡ old.finished → new.cores ≡ old.cores
      → (behind.status ≡ Finished) ↔ (task.status ≡ Finished)
      → ((core : ℕ) → HasCore behind.status core ↔ HasCore task.status core) → FitsLists (stepped_to old new)
  lists_stay sizes finished cores ends holds =
      record {
        finished = ap length finished ∙ sizes.finished;
        cores = ap length cores ∙ sizes.cores;
        commit_queues =
            subst (All (λ ids. (length ids ≤ old.settings.commit_queue) × AreDistinct ids)) (sym finished) sizes.commit_queues;
        core_counts = subst (All (λ held. length held ≡ old.settings.cores)) (sym cores) sizes.core_counts;
        finished_are = λ tile k. (
          λ has. has_forth (λ status. status ≡ Finished) ends.1 tile k
              ((sizes.finished_are tile k).0 (subst (λ lists. Contains (slice_index_or lists tile []) k) finished has)),
          λ has. subst (λ lists. Contains (slice_index_or lists tile []) k) (sym finished)
              ((sizes.finished_are tile k).1 (has_back (λ status. status ≡ Finished) ends.0 tile k has)),
        );
        held_are = λ tile core k. (
          λ held. has_forth (λ status. HasCore status core) (holds core).1 tile k
              ((sizes.held_are tile core k).0 (ap (λ lists. slice_get (slice_index_or lists tile []) core) (sym cores) ∙ held)),
          λ has. ap (λ lists. slice_get (slice_index_or lists tile []) core) cores
              ∙ (sizes.held_are tile core k).1 (has_back (λ status. HasCore status core) (holds core).0 tile k has),
        );
      }

  pub step_keeps_sizes : SoundSizes old → FitsLists (stepped_to old new) → length behind.bytes ≤ MAX_EMITTED
      → SoundSizes new
  step_keeps_sizes sizes lists bytes = subst SoundSizes (sym step.rest)
      (record {
        settings = sizes.settings;
        queues = sizes.queues;
        finished = lists.finished;
        cores = lists.cores;
        blocks = sizes.blocks;
        task_queues = sizes.task_queues;
        commit_queues = lists.commit_queues;
        core_counts = lists.core_counts;
        queued_are = λ tile k. (
          λ has. has_forth (λ status. Unit {0}) (λ is. is) tile k ((sizes.queued_are tile k).0 has),
          λ has. (sizes.queued_are tile k).1 (has_back (λ status. Unit {0}) (λ is. is) tile k has),
        );
        finished_are = lists.finished_are;
        held_are = lists.held_are;
        kinds = λ k t at.
            (let from = origin old new id task behind step k t at in
            subst (λ z. z.kinds < 2 ^ depth_of z) (sym from.made) (sizes.kinds k from.was from.there));
        bytes =
            each_stepped old new id (stepped_task task behind) step.changes (λ k t. length t.bytes ≤ MAX_EMITTED) (λ k t other at. sizes.bytes k t at) bytes;
        spilled = sizes.spilled;
      })
