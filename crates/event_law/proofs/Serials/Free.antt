-- A sound view has an uncommitted task just where the serial machine has a pending one.
use Rattle.std.proofs.Common.{◌≡◌, ℕ, ◌+◌, ◌<◌, [], length, map, option_map, Some, refl, sym, ap, ◌∙◌, inl, inr, arith}
use Rattle.std.proofs.lemmas.List.{length-map}
use Rattle.fractal_vt.specs.declared.key.Key.{Key}
use Rattle.fractal_vt.specs.Levels.{closed_level, levels_cmp}
use Rattle.fractal_vt.proofs.Proved.{greater_not, mapped_some}
use Rattle.guest_image.specs.ImageValue.{ImageValue}
use Rattle.order_law.specs.Events.{IsLeastInKeys}
use Rattle.order_law.specs.Tasks.{Keyed, levels_of}
use Rattle.order_law.proofs.Proved.{innermost}
use Rattle.pending_list.specs.declared.task.PendingTask.{PendingTask}
use Rattle.event_def.specs.serial_machine.Turn.{inner}
use Rattle.event_def.specs.spec_state.Groups.{all_keyed, all_spilled, bag_creator, bag_spilled, bag_task, keyed_tasks}
use Rattle.event_def.specs.spec_state.Groups.{keyed_task}
use Rattle.event_def.specs.spec_state.Least.{HasKey, IsAllCommitted, Queued, Spilled_at, Spot}
use Rattle.spec_law.specs.Sound.{Sound}
use Rattle.event_def.specs.spec_state.View.{View, task_at}
use Rattle.spec_law.proofs.Proved.{below_all, firm_is_committed, Free, free_is_keyed, id_below, in_spilled, lowest}
use Rattle.spec_law.proofs.Proved.{none_is_committed, place_in_all, queued_stands, spilled_in_keys, spilled_stands}
use Rattle.spec_law.proofs.Proved.{spot_of, which}
use Rattle.event_def.specs.task_law.Tasks.{pending}
use Rattle.event_law.proofs.Serials.Stack.{none_stands, stands_nowhere}

-- some task of the view is free
record HasFree (image : ImageValue) (view : View) (sound : Sound image view) : Type 0 where
  pub depth : ℕ
  pub p : PendingTask
  pub free : Free view sound.sizes sound.heir depth p

module _ (image : ImageValue) (view : View) (sound : Sound image view) where
  -- each free task stands at a spot
  free_has_spot : (depth : ℕ) (p : PendingTask) → Free view sound.sizes sound.heir depth p
      → (spot : Spot) × (key : Key) × HasKey view spot key
  free_has_spot depth p free =
      let order = free_is_keyed view sound.sizes sound.heir depth p free in
      let at = spot_of view sound.sizes sound.heir order.id order.x order.there in
      (at.spot, at.key, at.has)

  -- where no task is uncommitted, none is pending
  pub none_pending : IsAllCommitted view → inner sound.serial.stack ≡ []
  none_pending all =
      none_stands sound.serial.stack (λ depth p stands.
      let at = free_has_spot depth p ((sound.tasks.matches depth p).1 stands) in
      all at.0 at.1 at.2)

  -- each task's id is below this
  abbrev bound : ℕ
  bound = length view.tasks + length (all_spilled view)

  below_bound : (k : ℕ) (x : Keyed) → all_keyed view sound.heir k ≡ Some x → k < bound
  below_bound k x at =
      let low = below_all (length view.tasks) (keyed_tasks view) (map (spilled_in_keys view sound.heir) (all_spilled view)) bounded k x at in
      let same = length-map (all_spilled view) (spilled_in_keys view sound.heir) in
      omega (arith, low, same)
    where
      bounded : (j : ℕ) (y : Keyed) → keyed_tasks view j ≡ Some y → j < length view.tasks
      bounded j y there = let read = mapped_some keyed_task (task_at view j) y there in id_below view j read.0 read.1

  -- what stands at a spot stands among all tasks
  spot_is_keyed : (spot : Spot) (key : Key) → HasKey view spot key
      → (id : ℕ) × (x : Keyed) × (all_keyed view sound.heir id ≡ Some x)
  spot_is_keyed (Queued tile place) key has =
      (has.0, keyed_task has.1, queued_stands view sound.heir has.0 has.1 has.2.there)
  spot_is_keyed (Spilled_at tile place) key has =
      let among = place_in_all view.blocks tile place has.0 has.1 in
      let stands = spilled_stands view sound.heir among.0 has.0 among.1 in
      (stands.0, spilled_in_keys view sound.heir has.0, stands.1)

  -- a task that no other is below is free
  least_is_free : (id : ℕ) (x : Keyed) → IsLeastInKeys (all_keyed view sound.heir) id x → HasFree image view sound
  least_is_free id x least =
      let inner =
      innermost (all_keyed view sound.heir) (map closed_level view.path) view.next id x sound.order.order least in
      elim (which view sound.heir id x least.there) [
        | inl queued ↦
            let by = none_is_committed queued.0.creator (sym (ap (λ y. y.creator) queued.2) ∙ inner.committed) in
            let task = bag_task queued.0 in
            record {
              depth = task.depth;
              p = pending by.0 by.1 task.body task.ts;
              free = inl (record {
                id = id;
                task = task;
                there = ap (option_map bag_task) queued.1;
                turn = by.0;
                index = by.1;
                creator = ap bag_creator by.2;
                depth_is = refl;
                pending_is = refl;
              });
            }
        | inr spilled ↦
            let low = firm_is_committed image view sound spilled.0 spilled.1 spilled.2 (sym (ap (λ y. y.creator) spilled.3) ∙ inner.committed) in
            record {
              depth = spilled.1.desc.depth;
              p = (bag_spilled spilled.1).task;
              free = inr (in_spilled view spilled.0 spilled.1 spilled.2, low);
            }
      ]

  -- where a task is uncommitted, one is free: the lowest of all
  some_is_free : (spot : Spot) (key : Key) → HasKey view spot key → HasFree image view sound
  some_is_free spot key has = elim (lowest (all_keyed view sound.heir) bound) [
    | inl none ↦
        let at = spot_is_keyed spot key has in
        absurd (cc (none at.0 (below_bound at.0 at.1 at.2), at.2))
    | inr low ↦ least_is_free low.id low.task
        (record { there = low.there; least = λ k y at. greater_not (levels_cmp (levels_of low.task) (levels_of y)) (low.low k y (below_bound k y at) at) })
  ]

  -- where no task is pending, none is uncommitted
  pub all_committed : inner sound.serial.stack ≡ [] → IsAllCommitted view
  all_committed empty spot key has =
      let one = some_is_free spot key has in
      stands_nowhere sound.serial.stack empty one.depth one.p ((sound.tasks.matches one.depth one.p).0 one.free)
