-- A coalescing leaves task queues bounded, and holding the queued tasks.
use Rattle.std.proofs.Common.{◌≡◌, ◌≤◌, ℕ, Bool, true, [], length, Option, Some, None, refl, sym, ap, subst, ◌∙◌, map}
use Rattle.std.proofs.Common.{option_map, is_some, slice_index_or}
use Rattle.std.specs.Prelude.{Contains, filter, All}
use Rattle.std.proofs.lemmas.List.{length-map, length-set}
use Rattle.guest_image.specs.ImageValue.{ImageValue}
use Rattle.spec_state.specs.serial_machine.State.{SerialState}
use Rattle.tile_queues.specs.Queue.{AreDistinct}
use Rattle.spec_state.specs.declared.task.Task.{Task}
use Rattle.spec_state.specs.View.{View, task_at, queue_at}
use Rattle.spec_state.specs.Groups.{room_tasks, room_task}
use Rattle.spec_state.specs.Queries.{IsQueued}
use Rattle.spec_state.specs.Room.{Coalesces}
use Rattle.spec_state.specs.Stored.{HasTask}
use Rattle.spec_law.specs.Sound.{SoundOrder, SoundSizes, SoundTasks}
use Rattle.spec_law.proofs.Tasks.Filtered.{filter_was, filter_is, filter_leaves, queue_filtered, list_mapped}
use Rattle.spec_law.proofs.Aborted.KeptSizes.{bounded_filtered}
use Rattle.spec_law.proofs.Moves.Moving.{moved_to}
use Rattle.spec_law.proofs.Moves.MovingSizes.{moved_sizes}
use Rattle.spec_law.proofs.Moves.CoalesceMoves.{coalesce_moves, queued_was}

module _ (image : ImageValue) (old new : View) (heir : Option ℕ) (serial : SerialState) (tile : ℕ) (tasks : SoundTasks image old heir serial) (order : SoundOrder old heir) (sizes : SoundSizes old) (c : Coalesces tile old new) where
  -- the task of this id is there
  abbrev here : ℕ → Bool
  here id = is_some (room_tasks new id)

  -- each queue has lost the ids of tasks that have gone
  queues_are : new.queues ≡ map (filter here) old.queues
  queues_are = c.queues ∙ ap (λ f. map f old.queues) (λ i ids. queue_filtered (room_tasks new) ids i)

  -- so has that of one tile
  queue_is : (at : ℕ) → slice_index_or new.queues at [] ≡ filter here (queue_at old at)
  queue_is at = ap (λ queues. slice_index_or queues at []) queues_are ∙ list_mapped (filter here) refl old.queues at

  -- a task that is there stands so
  is_here : (id : ℕ) (o : Option Task) → task_at new id ≡ o → here id ≡ true
      → (now : Task) × (task_at new id ≡ Some now)
  is_here id None none is = absurd (cc (sym (ap (λ o. is_some (option_map room_task o)) none) ∙ is))
  is_here id (Some now) at is = (now, at)

  -- each id in a queue is that of a task of the tile
  queued_forth : (at id : ℕ) → IsQueued (moved_to old new) at id → HasTask (moved_to old new) at id (λ status. Unit {0})
  queued_forth at id has =
      let left : Contains (filter here (queue_at old at)) id = subst (λ ids. Contains ids id) (queue_is at) has in
      let was = (sizes.queued_are at id).0 (filter_was here (queue_at old at) id left) in
      let now = is_here id (task_at new id) refl (filter_is here (queue_at old at) id left) in
      let both : Some now.0 ≡ Some was.0 = sym (queued_was image old new heir serial tile tasks sizes c id now.0 now.1) ∙ was.1 in
      let same : now.0 ≡ was.0 = cc in
      (now.0, now.1, ap (λ t. t.tile) same ∙ was.2, tt)

  -- and each task stands in the queue of its tile
  queued_back : (at id : ℕ) → HasTask (moved_to old new) at id (λ status. Unit {0}) → IsQueued (moved_to old new) at id
  queued_back at id now =
      let there = queued_was image old new heir serial tile tasks sizes c id now.0 now.1 in
      let was = (sizes.queued_are at id).1 (now.0, there, now.2, tt) in
      subst (λ ids. Contains ids id) (sym (queue_is at))
      (filter_leaves here (queue_at old at) id was (ap (λ o. is_some (option_map room_task o)) now.1))

  -- a coalescing keeps the group of sizes
  pub coalesce_sizes : SoundSizes (moved_to old new)
  coalesce_sizes =
      moved_sizes old new heir (coalesce_moves image old new heir serial tile tasks sizes c) order sizes
      (ap length queues_are ∙ length-map old.queues (filter here) ∙ sizes.queues)
      (ap length c.blocks ∙ length-set old.blocks tile _ ∙ sizes.blocks)
      (subst (All (λ ids. (length ids ≤ old.settings.task_queue) × AreDistinct ids)) (sym queues_are)
      (bounded_filtered here old.settings.task_queue old.queues sizes.task_queues))
      (λ at id. (queued_forth at id, queued_back at id))
