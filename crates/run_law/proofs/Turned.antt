-- A turn that is defined, taken apart.
use Rattle.std.proofs.Common.{◌≡◌, refl, sym, ap, ◌+◌, ◌++◌, ℕ, Bool, true, false, List, [], ◌∷◌, Option, Some, None}
use Rattle.std.proofs.Common.{if◌then◌else◌}
use Rattle.std.proofs.lemmas.Option.{none-some, same_Some}
use Rattle.guest_image.specs.ImageValue.{ImageValue}
use Rattle.task_desc.specs.declared.desc.Name.{Name}
use Rattle.pending_list.specs.declared.task.PendingTask.{PendingTask}
use Rattle.run_journal.specs.declared.journal.Entry.{Entry}
use Rattle.serial_machine.specs.BagValue.{BagValue}
use Rattle.serial_machine.specs.TaskState.{TaskState}
use Rattle.serial_machine.specs.State.{SerialState}
use Rattle.serial_machine.specs.TaskRun.{Done, Trapped, TaskEnd}
use Rattle.serial_machine.specs.Turn.{turn, turn_from_stack, turn_of_task, after_run, run_in_bag, inner, find_named}
use Rattle.serial_machine.specs.Turn.{is_least, MayTurn, stack_after}

-- the task whose turn leads from a state to another, its bag and its run
pub record Turned (image : ImageValue) (budget : ℕ) (s after : SerialState) (name : Name) (entry : Entry) : Type 0 where
  pub bag : BagValue
  pub outer : List BagValue
  pub task : PendingTask
  pub done : TaskState
  pub may : MayTurn s.stack name bag outer task
  pub run : run_in_bag image budget s bag outer task ≡ Done done
  pub state : after ≡ record { stack = stack_after bag outer name (s.count + 1) task.ts done.spawns done.sub; memory = done.memory; output = s.output ++ done.bytes; count = s.count + 1 }
  pub told : entry ≡ record { name = name; depth = bag.depth; ts = task.ts }

-- what a turn that is defined did
pub turn-did : (image : ImageValue) (budget : ℕ) (s after : SerialState) (name : Name) (entry : Entry)
    → turn image budget s name ≡ Some (after, entry) → Turned image budget s after name entry
unfolding turn
turn-did image budget s after name entry = at-stack (inner s.stack) refl where
  at-end : (bag : BagValue) (outer : List BagValue) (task : PendingTask) → MayTurn s.stack name bag outer task
      → (o : TaskEnd) → run_in_bag image budget s bag outer task ≡ o
      → after_run s name bag outer task o ≡ Some (after, entry) → Turned image budget s after name entry
  at-end bag outer task may (Trapped cause pc) ran h = absurd (none-some _ h)
  at-end bag outer task may (Done t) ran h =
      let same = same_Some _ _ h in
      record {
        bag = bag;
        outer = outer;
        task = task;
        done = t;
        may = may;
        run = ran;
        state = sym (ap (λ p. p.0) same);
        told = sym (ap (λ p. p.1) same);
      }

  at-least : (bag : BagValue) (outer : List BagValue) (task : PendingTask) → inner s.stack ≡ bag ∷ outer
      → find_named name bag.tasks ≡ Some task → (b : Bool) → is_least task.ts bag.tasks ≡ b
      → (if b then after_run s name bag outer task (run_in_bag image budget s bag outer task) else None) ≡ Some (after, entry)
      → Turned image budget s after name entry
  at-least bag outer task top found true least h =
      at-end bag outer task (record { top = top; found = found; least = least }) (run_in_bag image budget s bag outer task) refl h
  at-least bag outer task top found false least h = absurd (none-some _ h)

  at-found : (bag : BagValue) (outer : List BagValue) → inner s.stack ≡ bag ∷ outer → (o : Option PendingTask)
      → find_named name bag.tasks ≡ o
      → turn_of_task image budget s name bag outer o ≡ Some (after, entry) → Turned image budget s after name entry
  at-found bag outer top None found h = absurd (none-some _ h)
  at-found bag outer top (Some task) found h = at-least bag outer task top found (is_least task.ts bag.tasks) refl h

  at-stack : (stack : List BagValue) → inner s.stack ≡ stack
      → turn_from_stack image budget s name stack ≡ Some (after, entry) → Turned image budget s after name entry
  at-stack [] top h = absurd (none-some _ h)
  at-stack (bag ∷ outer) top h = at-found bag outer top (find_named name bag.tasks) refl h
