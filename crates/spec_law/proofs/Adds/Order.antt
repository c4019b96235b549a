-- A new child keeps the order of all uncommitted tasks.
use Rattle.std.proofs.Common.{◌≡◌, ◌≢◌, ◌<◌, ℕ, Bool, true, false, List, length, Option, Some, None, refl, sym, ap}
use Rattle.std.proofs.Common.{subst, ◌∙◌, map, option_map, nat_lt}
use Rattle.std.proofs.lemmas.Bool.{lt-ltb}
use Rattle.fractal_vt.specs.Levels.{closed_level}
use Rattle.order_law.specs.Events.{beside, Changes, IsPlaced}
use Rattle.order_law.specs.Ordered.{IsOrdered}
use Rattle.order_law.specs.Tasks.{Keyed}
use Rattle.order_law.proofs.Proved.{beside_task, rename_keeps_order, enqueue_law}
use Rattle.spec_state.specs.declared.task.Task.{Task}
use Rattle.spec_state.specs.View.{View, task_at}
use Rattle.spec_state.specs.Groups.{all_keyed, all_spilled, keyed_tasks, keyed_spilled, keyed_task, live_creator}
use Rattle.spec_state.specs.Opening.{Adds}
use Rattle.spec_law.specs.Sound.{SoundOrder}
use Rattle.spec_state.proofs.Proved.{still_there}
use Rattle.spec_law.proofs.Adds.One.{added_to}
use Rattle.spec_law.proofs.Tasks.Rebound.{rebound, spilled_idle, low_is, high_is}
use Rattle.spec_law.proofs.Tasks.Beside.{id_below}
use Rattle.fractal_vt.proofs.Proved.{mapped_some}

module _ (old new : View) (id : ℕ) (task : Task) (adds : Adds id task old new) (heir : Option ℕ) where
  -- the spilled tasks, as the order reads them
  abbrev spilled_list : List Keyed
  spilled_list = map (keyed_spilled (length old.history) heir) (all_spilled old)

  -- the tasks that were there stand below the new bound as well
  bounded : (k : ℕ) (x : Keyed) → keyed_tasks old k ≡ Some x → (k < length old.tasks) × (k < length new.tasks)
  bounded k x at =
      let read = mapped_some keyed_task (task_at old k) x at in
      (id_below old k read.0 read.1, id_below new k read.0 (still_there old new id task adds k read.0 read.1))

  -- what the order reads of the tasks that were there, the spilled ones under the ids that they have from now on
  abbrev before : ℕ → Option Keyed
  before = beside (length new.tasks) (keyed_tasks old) spilled_list

  abbrev after : ℕ → Option Keyed
  after = beside (length new.tasks) (keyed_tasks new) spilled_list

  others : (k : ℕ) → k ≢ id → after k ≡ before k
  others k other = by_test (nat_lt k (length new.tasks)) refl
    where
      by_test : (b : Bool) → nat_lt k (length new.tasks) ≡ b → after k ≡ before k
      by_test true low =
          low_is (length new.tasks) (keyed_tasks new) spilled_list k low
          ∙ ap (option_map keyed_task) (adds.changes.others k other)
          ∙ sym (low_is (length new.tasks) (keyed_tasks old) spilled_list k low)
      by_test false high =
          high_is (length new.tasks) (keyed_tasks new) spilled_list k high
          ∙ sym (high_is (length new.tasks) (keyed_tasks old) spilled_list k high)

  vacant : before id ≡ None
  vacant =
      low_is (length new.tasks) (keyed_tasks old) spilled_list id (lt-ltb id (length new.tasks) (id_below new id task adds.changes.changed))
      ∙ ap (option_map keyed_task) adds.vacant

  changes : Changes before after id (Some (keyed_task task))
  changes =
      record {
        changed =
            beside_task (length new.tasks) (keyed_tasks new) spilled_list id (keyed_task task) (id_below new id task adds.changes.changed) (ap (option_map keyed_task) adds.changes.changed);
        others = others;
      }

  pub add_keeps_order : (creator number : ℕ) (creator_task : Task) → task_at old creator ≡ Some creator_task
      → creator_task.key.tb ≡ Some number → task.key.tb ≡ None
      → live_creator task.creator ≡ Some creator → IsPlaced (keyed_task creator_task) (keyed_task task)
      → SoundOrder old heir → SoundOrder new heir
  add_keeps_order creator number creator_task there numbered open' made_by placed sound =
      subst (λ v. SoundOrder v heir) (sym adds.frame) (record { order = kept; numbers = sound.numbers })
    where
      kept : IsOrdered (all_keyed (added_to old new) heir) (map closed_level old.path) old.next
      kept =
          enqueue_law before after (map closed_level old.path) old.next
          (record {
            creator = creator;
            task = keyed_task creator_task;
            there =
                beside_task (length new.tasks) (keyed_tasks old) spilled_list creator (keyed_task creator_task) (bounded creator (keyed_task creator_task) (ap (option_map keyed_task) there)).1 (ap (option_map keyed_task) there);
            number = number;
            dispatched = numbered;
            id = id;
            child = keyed_task task;
            vacant = vacant;
            idle = open';
            made_by = made_by;
            placed = placed;
            changes = changes;
          })
          (rename_keeps_order (all_keyed old heir) before (map closed_level old.path) old.next
          (rebound (length old.tasks) (length new.tasks) (keyed_tasks old) spilled_list bounded (spilled_idle (length old.history) heir (all_spilled old))) sound.order)
