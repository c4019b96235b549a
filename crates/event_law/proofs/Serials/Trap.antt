-- The trap of the least task of a sound view is that of the serial machine's next task.
use Rattle.std.proofs.Common.{◌≡◌, ◌≢◌, ◌+◌, [], ◌==◌, ℕ, true, length, Option, Some, None, sym, ap, subst, ◌∙◌, map}
use Rattle.std.proofs.Common.{is_some, option_map, if◌then◌else◌, refl}
use Rattle.std.specs.Prelude.{IsSome}
use Rattle.fractal_vt.specs.Levels.{closed_level}
use Rattle.guest_image.specs.ImageValue.{ImageValue, IsImage}
use Rattle.memory_law.specs.Accesses.{Replays}
use Rattle.memory_law.specs.Events as memory
use Rattle.memory_law.specs.Tasks.{Logged, Earlier}
use Rattle.memory_law.proofs.Proved.{commit_keeps_chain}
use Rattle.order_law.proofs.Proved.{least_is_below}
use Rattle.event_def.proofs.Below.run_law.Proved.{run_sized}
use Rattle.pending_list.specs.declared.task.PendingTask.{PendingTask}
use Rattle.event_def.specs.serial_machine.Turn.{TrapsSo, context_in_bag}
use Rattle.task_desc.specs.declared.desc.Name.{Name}
use Rattle.event_def.specs.task_law.Domains.{FitsBags}
use Rattle.event_def.specs.task_law.Logged.{TrapsWithLog, LoggedRun}
use Rattle.event_def.specs.task_law.Tasks.{pending}
use Rattle.event_def.proofs.Below.task_law.Proved.{contexts_fit, logged_trap_is_serial}
use Rattle.task_request.specs.TaskState.{task_at_start}
use Rattle.event_def.specs.spec_state.declared.task.Creator.TheVariants.{Committed}
use Rattle.event_def.specs.spec_state.declared.task.Task.{Task}
use Rattle.event_def.specs.spec_state.Groups.{all_keyed, bag_task, keyed_task, logged_tasks, logged_task}
use Rattle.spec_law.specs.Laws.{MayTakeTurn}
use Rattle.event_def.specs.spec_state.Least.{IsLeastTask}
use Rattle.spec_law.specs.Sound.{Sound, StandsAs, TrapsNext, done_so_far}
use Rattle.event_def.specs.spec_state.Tasks.{depth_of, start_context}
use Rattle.event_def.specs.spec_state.View.{View, task_at}
use Rattle.event_def.proofs.Below.spec_state.Proved.{same_test, other_test}
use Rattle.spec_law.proofs.Proved.{least_is_next, least_of_all, number_of, queued_stands, run_stack, starts_so}
use Rattle.event_def.specs.End.{LeastIsTrapped}
use Rattle.fractal_vt.proofs.Proved.{mapped_some}

-- the tasks without the one of this id
abbrev without_one : (ℕ → Option Logged) → ℕ → ℕ → Option Logged
without_one tasks id k = if k == id then None else tasks k

-- the log of the least task, where it is dispatched, replays on the serial machine's memory
pub least_replays : (image : ImageValue) (view : View) (sound : Sound image view) (id : ℕ) (task : Task)
    → IsLeastTask view id task → IsSome task.key.tb
    → Replays sound.serial.memory task.log
least_replays image view sound id task is some =
    (commit_keeps_chain view.settings.line (logged_tasks view) (without_one (logged_tasks view) id) id (logged_task task) sound.serial.memory view.memory leaves sound.memory.chained).0
  where
    number : (n : ℕ) × (task.key.tb ≡ Some n)
    number = number_of task.key.tb some

    least : (k : ℕ) (other : Logged) → k ≢ id → logged_tasks view k ≡ Some other → other.dispatched ≡ true
        → Earlier (logged_task task) other
    least k other apart at runs =
        let read = mapped_some logged_task (task_at view k) other at in
        subst (Earlier (logged_task task)) (sym read.2)
        (least_is_below (all_keyed view sound.heir) (map closed_level view.path) view.next id number.0 (keyed_task task) sound.order.order
        (least_of_all view sound.sizes sound.heir id task is) number.1 k (keyed_task read.0) apart (queued_stands view sound.heir k read.0 read.1))

    leaves : memory.CommitsInLogs (logged_tasks view) (without_one (logged_tasks view) id) id (logged_task task)
    leaves = record {
      there = ap (option_map logged_task) is.queued_at.there;
      dispatched = ap is_some number.1;
      least = least;
      gone = ap (λ b. if b then None else logged_tasks view id) (same_test id);
      others = λ k other. ap (λ b. if b then None else logged_tasks view k) (other_test k id other);
    }

module _ (image : ImageValue) (view : View) (within : IsImage image) (sound : Sound image view) (name : Name) (cause pc : ℕ) (is : LeastIsTrapped view name cause pc) where
  -- what stands next in its run is the trap
  stands : IsSome is.task.key.tb × TrapsNext image view.version view.settings.budget is.task cause
  stands =
      subst (StandsAs image view.version view.settings.budget is.task) is.trapped (sound.tasks.stands is.id is.task is.least.queued_at.there)

  -- it may take the serial machine's next turn
  may : MayTakeTurn sound.serial.stack is.task
  may = least_is_next image view sound is.id is.task is.least

  -- as this pending task
  abbrev p : PendingTask
  p = pending may.turn may.index (bag_task is.task).body is.task.key.ts

  -- of this name
  named : p.name ≡ name
  named =
      let both : Committed may.turn may.index ≡ Committed name.creator name.index = sym may.creator ∙ is.named in
      let turns : may.turn ≡ name.creator = cc in
      let places : may.index ≡ name.index = cc in
      λ i. record { creator = turns i; index = places i }

  -- its calls depended on what those of its serial turn depend on
  same_context : context_in_bag image.version may.next.bag may.next.outer p ≡ start_context view.version is.task
  same_context =
      let start = starts_so is.task in
      let deep : depth_of is.task ≡ length start.rest + 1 = ap (λ n. n + 1) (sym start.long) in
      let in_bags = sound.tasks.domains is.id is.task may.turn may.index is.least.queued_at.there may.creator in
      ap (λ v. context_in_bag v may.next.bag may.next.outer p) (sym sound.version)
      ∙ contexts_fit view.version sound.serial.stack p start.own start.rest (run_stack image view.settings.budget view.history sound.serial sound.is_run)
      (subst (λ ds. FitsBags ds sound.serial.stack) start.is in_bags)
      (record { bag = may.next.bag; outer = may.next.outer; may = may.next.may; deep = may.next.deep ∙ deep })
      ∙ sym (start.context view.version)

  -- the serial machine's memory is as long as the image's data
  sized : length sound.serial.memory ≡ image.data_size
  sized = run_sized image view.settings.budget view.history sound.serial within sound.is_run

  -- its run by its log comes to the trap in its serial turn
  traps_so : TrapsWithLog image view.settings.budget (length sound.serial.memory) (context_in_bag image.version may.next.bag may.next.outer p) p is.task.log cause is.task.core.pc
  traps_so =
      subst (λ size. TrapsWithLog image view.settings.budget size (context_in_bag image.version may.next.bag may.next.outer p) p is.task.log cause is.task.core.pc) (sym sized)
      (subst (λ ctx. TrapsWithLog image view.settings.budget image.data_size ctx p is.task.log cause is.task.core.pc) (sym same_context)
      (record {
        before = done_so_far image view.version view.settings.budget is.task;
        run = subst (λ v. LoggedRun image view.settings.budget image.data_size (start_context view.version is.task)
            (task_at_start v is.task.entry is.task.key.ts is.task.args []) is.task.log (done_so_far image view.version view.settings.budget is.task)) sound.version stands.1.ran;
        traps = stands.1.traps;
        at = refl;
      }))

  -- so does that turn
  pub trap_is_serial : TrapsSo image view.settings.budget sound.serial name cause pc
  trap_is_serial =
      subst (λ at. TrapsSo image view.settings.budget sound.serial name cause at) is.pc_is
      (subst (λ own. TrapsSo image view.settings.budget sound.serial own cause is.task.core.pc) named
      (logged_trap_is_serial image view.settings.budget (depth_of is.task) sound.serial p is.task.log cause is.task.core.pc may.next traps_so
      (least_replays image view sound is.id is.task is.least stands.0)))
