-- A spilled task that is free and foremost may take the serial machine's next turn: it may once it has come back to a queue, and its return
-- changes no free task.
use Rattle.std.proofs.Common.{◌≡◌, ◌==◌, ℕ, ◌≤◌, Bool, false, List, [], ◌∷◌, ◌++◌, Option, Some, None, refl, sym, ap}
use Rattle.std.proofs.Common.{if◌then◌else◌}
use Rattle.pending_list.specs.declared.task.PendingTask.{PendingTask}
use Rattle.spec_state.specs.serial_machine.BagValue.{BagValue}
use Rattle.spec_state.specs.serial_machine.State.{IsStack}
use Rattle.spec_state.specs.task_law.Commit.{Matches, HasTurn}
use Rattle.spec_state.specs.task_law.Moves.{SpillsOneInBags}
use Rattle.spec_state.specs.task_law.Sound.{AreSound, SameFree}
use Rattle.spec_state.specs.task_law.Tasks.{BagTask, Committed, IsFree, IsSpilled, SpilledBagTask}
use Rattle.spec_state.proofs.Below.task_law.Proved.{least_has_turn, splits_keep}
use Rattle.spec_state.proofs.Proved.{same_test, other_test}

-- the spilled task as a queued one, idle
abbrev back_again : SpilledBagTask → BagTask
back_again e = record {
  depth = e.depth;
  body = record { entry = e.task.entry; args = e.task.args };
  ts = e.task.ts;
  creator = Committed e.task.name.creator e.task.name.index;
  dispatched = false;
  spawns = [];
}

module _ (count least id : ℕ) (runs : Bool) (tasks : ℕ → Option BagTask) (spilled front back : List SpilledBagTask) (e : SpilledBagTask) (vacant : tasks id ≡ None) (is : spilled ≡ front ++ e ∷ back) (low : e.task.name.creator ≤ count) where
  -- the queued tasks with the spilled one among them
  abbrev with_it : ℕ → Option BagTask
  with_it k = if k == id then Some (back_again e) else tasks k

  -- read backwards, its return is a spill
  returns : SpillsOneInBags count least runs with_it tasks (front ++ back) spilled id
  returns = record {
    task = back_again e;
    name = e.task.name;
    there = ap (λ b. if b then Some (back_again e) else tasks id) (same_test id);
    idle = refl;
    gone = vacant;
    others = λ k other. sym (ap (λ b. if b then Some (back_again e) else tasks k) (other_test k id other));
    named = (refl, low);
    heir = λ creator index live. absurd (cc (live));
    front = front;
    back = back;
    before_is = refl;
    after_is = is;
  }

  -- the free tasks are the same ones
  same_free : SameFree count tasks spilled with_it (front ++ back)
  same_free = (splits_keep id tasks with_it spilled (front ++ back) count least runs returns).0

  -- the spilled task, if no free task is deeper and none of its depth is earlier, may take the next turn
  pub spilled_has_turn : (stack : List BagValue) → AreSound count least runs tasks spilled
      → Matches count tasks spilled stack → IsStack stack
      → ((depth : ℕ) (p : PendingTask) → IsFree tasks (IsSpilled spilled) count depth p → depth ≤ e.depth)
      → ((p : PendingTask) → IsFree tasks (IsSpilled spilled) count e.depth p → e.task.ts ≤ p.ts)
      → HasTurn stack e.depth e.task
  spilled_has_turn stack sound matches is_stack deepest first =
      least_has_turn count least id e.task.name.creator e.task.name.index runs with_it (front ++ back) stack (back_again e)
      ((splits_keep id tasks with_it spilled (front ++ back) count least runs returns).1 sound)
      (λ depth p. (
        λ free. (matches depth p).0 ((same_free depth p).1 free),
        λ stands. (same_free depth p).0 ((matches depth p).1 stands),
      ))
      is_stack
      (record {
        there = ap (λ b. if b then Some (back_again e) else tasks id) (same_test id);
        creator = refl;
        deepest = λ depth p free. deepest depth p ((same_free depth p).1 free);
        first = λ p free. first p ((same_free e.depth p).1 free);
      })
