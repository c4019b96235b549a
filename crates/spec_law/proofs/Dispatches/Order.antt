-- A dispatch keeps the group of order.
use Rattle.std.proofs.Common.{◌≡◌, ◌<◌, ◌+◌, ◌-◌, ℕ, List, length, Option, Some, None, ap, arith, map, option_map}
use Rattle.std.proofs.Common.{slice_get, nat_lt, if◌then◌else◌}
use Rattle.fractal_vt.specs.Levels.{closed_level}
use Rattle.order_law.specs.Events as order
use Rattle.order_law.specs.Events.{beside}
use Rattle.order_law.specs.Tasks.{Keyed}
use Rattle.order_law.proofs.Proved.{beside_task, dispatch_law, rename_keeps_order}
use Rattle.spec_state.specs.declared.numbers.TheConstants.{DISPATCH_NUMBERS}
use Rattle.spec_state.specs.View.{View, task_at}
use Rattle.spec_state.specs.Groups.{all_keyed, all_spilled, keyed_tasks, keyed_spilled, keyed_task}
use Rattle.spec_state.specs.Changes.{Dispatches}
use Rattle.spec_law.specs.Sound.{SoundOrder}
use Rattle.spec_law.proofs.Tasks.Rebound.{rebound, spilled_idle}
use Rattle.spec_law.proofs.Dispatches.One.{after, now, was, each_after}
use Rattle.spec_law.proofs.Tasks.Beside.{id_below, queued_stands}
use Rattle.fractal_vt.proofs.Proved.{mapped_some}

module _ (old new : View) (heir : Option ℕ) (tile : ℕ) (d : Dispatches tile old new) (open' : d.task.key.tb ≡ None) where
  -- the spilled tasks, as the order of tasks reads them
  abbrev spilled_list : List Keyed
  spilled_list = map (keyed_spilled (length old.history) heir) (all_spilled old)

  -- the task lies below the bound of before
  low : d.id < length old.tasks
  low = id_below old d.id d.task (was old new tile d)

  -- the tasks by the ids of before
  abbrev middle : ℕ → Option Keyed
  middle = beside (length old.tasks) (keyed_tasks new) spilled_list

  -- for the order of tasks an idle one gets the next number
  dispatches : order.DispatchesInKeys (all_keyed old heir) middle old.next
  dispatches =
      record {
        id = d.id;
        task = keyed_task d.task;
        there = queued_stands old heir d.id d.task (was old new tile d);
        idle = open';
        changes = record {
          changed = beside_task (length old.tasks) (keyed_tasks new) spilled_list d.id
              (keyed_task (now old new tile d)) low (ap (option_map keyed_task) d.changes.changed);
          others =
              λ k other. ap (λ o. if nat_lt k (length old.tasks) then o else slice_get spilled_list (k - length old.tasks))
              (ap (option_map keyed_task) (d.changes.others k other));
        };
      }

  -- each task lies below the bound of before and that of now
  bounded : (k : ℕ) (x : Keyed) → keyed_tasks new k ≡ Some x → (k < length old.tasks) × (k < length new.tasks)
  bounded k x at =
      let read = mapped_some keyed_task (task_at new k) x at in (
        each_after old new tile d (λ j t. j < length old.tasks) low (λ j t other there. id_below old j t there) k read.0 read.1,
        id_below new k read.0 read.1,
      )

  -- a dispatch keeps the order, and so does another bound for spilled tasks
  pub dispatched_order : old.next < DISPATCH_NUMBERS → SoundOrder old heir → SoundOrder (after old new tile d) heir
  dispatched_order left sound = record {
    order =
        rename_keeps_order middle (all_keyed (after old new tile d) heir)
        (map closed_level old.path) (old.next + 1)
        (rebound (length old.tasks) (length new.tasks) (keyed_tasks new) spilled_list bounded
        (spilled_idle (length old.history) heir (all_spilled old)))
        (dispatch_law (all_keyed old heir) middle
        (map closed_level old.path) old.next dispatches sound.order);
    numbers = omega (arith, left);
  }
