-- Room for one more task where nothing has run yet.
use Rattle.std.proofs.Common.{ℕ, ◌≡◌, ◌<◌, ◌≤◌, ◌⊎◌, inl, inr, Some, List, [], false, sym, ap, subst, ◌∙◌, arith}
use Rattle.std.specs.Prelude.{length, slice_index_or, is_some, option_map}
use Rattle.std.proofs.lemmas.Bool.{cases_eq}
use Rattle.event_step.specs.spec_state.declared.task.Creator.TheVariants.{Committed}
use Rattle.event_step.specs.spec_state.declared.task.Status.TheVariants.{Idle}
use Rattle.event_step.specs.spec_state.declared.task.Task.{Task}
use Rattle.event_step.specs.spec_state.Groups.{room_tasks, room_task}
use Rattle.event_step.specs.spec_state.Opening.{Adds}
use Rattle.event_step.specs.spec_state.Room.{Coalesces, QueueHasRoom, IsFull, IsMovable}
use Rattle.event_step.specs.spec_state.Settings.{IsValid}
use Rattle.event_step.specs.spec_state.Stored.{IsStored}
use Rattle.event_step.specs.spec_state.View.{View, queue_at, task_at}
use Rattle.event_step.proofs.Below.event_law.Proved.{coalesced_was, kept_at, kept_fewer}
use Rattle.event_step.specs.task_law.Room.{queue_after}
use Rattle.conflict_book.specs.Fresh.{AreFresh}
use Rattle.event_step.proofs.Below.spec_law.Proved.{some_first, some_in}

-- in a full queue a fresh task may move
pub fresh_moves : (size : ℕ) (view : View) (tile : ℕ) → IsStored size view → AreFresh view → IsValid view.settings
    → IsFull view tile
    → (id : ℕ) × IsMovable view tile id
fresh_moves size view tile stored fresh valid full =
    let some = valid.task_queue.0 in
    let first = some_in (queue_at view tile) (omega (arith, some, full)) in
    let has = (stored.queued_are tile first.0).0 first.1 in
    let one = fresh first.0 has.0 has.1 in (
      first.0,
      (
        has.0,
        record {
          idle = record { queued = first.1; there = has.1; idle = one.0 };
          firm = inl (0, one.1.0, one.1.1);
        },
      ),
    )

module _ (tile : ℕ) (old new : View) (c : Coalesces tile old new) where
  -- tasks that move leave the others fresh
  pub fresh_moved : AreFresh old → AreFresh new
  fresh_moved fresh id task there = fresh id task (coalesced_was tile old new c id task there)

  -- and a free place
  pub free_moved : length (queue_at old tile) ≤ old.settings.task_queue → QueueHasRoom new tile
  free_moved short =
      let first = some_first c.ids c.some in
      let movable = c.chosen.movable first.0 first.1 in
      let gone : is_some (room_tasks new first.0) ≡ false = ap (λ o. is_some (option_map room_task o)) (c.gone first.0 first.1) in
      let fewer = kept_fewer (room_tasks new) (queue_at old tile) first.0 movable.1.idle.queued gone in
      let queue_is : queue_at new tile ≡ queue_after (room_tasks new) (queue_at old tile) =
      ap (λ (qs : List (List ℕ)). slice_index_or qs tile []) c.queues ∙ kept_at (room_tasks new) old.queues tile in
      let now : length (queue_at new tile) < old.settings.task_queue =
      subst (λ (ids : List ℕ). length ids < old.settings.task_queue) (sym queue_is) (omega (arith, fewer, short)) in
      subst (λ s. length (queue_at new tile) < s.task_queue) (sym (ap (λ v. v.settings) c.frame)) now

-- a task of the image that is added leaves all of them fresh
pub fresh_added : (id index : ℕ) (task : Task) (old new : View) → AreFresh old → Adds id task old new
    → task.status ≡ Idle
    → task.creator ≡ Committed 0 index → AreFresh new
fresh_added id index task old new fresh adds idle made k x there = by_case (cases_eq k id)
  where
    by_case : (k ≡ id) ⊎ (k ≡ id → ⊥) → (x.status ≡ Idle) × ((index : ℕ) × (x.creator ≡ Committed 0 index))
    by_case (inl same) =
        let both : Some task ≡ Some x = sym adds.changes.changed ∙ (ap (task_at new) (sym same) ∙ there) in
        let is : task ≡ x = cc in
        subst (λ (t : Task). (t.status ≡ Idle) × ((index : ℕ) × (t.creator ≡ Committed 0 index))) is (idle, (index, made))
    by_case (inr other) = fresh k x (sym (adds.changes.others k other) ∙ there)
