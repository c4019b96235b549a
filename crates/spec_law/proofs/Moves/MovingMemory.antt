-- Tasks that move between queues and blocks keep the group of memory.
use Rattle.std.proofs.Common.{◌≡◌, ℕ, true, false, [], Option, Some, sym, ap, subst, ◌∙◌, inl, inr, option_map}
use Rattle.guest_image.specs.ImageValue.{ImageValue}
use Rattle.memory_law.specs.Events.{KeepsDispatched}
use Rattle.memory_law.specs.Tasks.{Logged}
use Rattle.memory_law.proofs.Proved.{idle_tasks_keep_chain}
use Rattle.spec_state.specs.serial_machine.State.{SerialState}
use Rattle.spec_state.specs.declared.task.Status.{Status}
use Rattle.spec_state.specs.declared.task.Status.TheVariants.{Idle, Running, Trapped, Finished}
use Rattle.spec_state.specs.declared.task.Task.{Task}
use Rattle.spec_state.specs.View.{View, task_at}
use Rattle.spec_state.specs.Filters.{HasNotes}
use Rattle.spec_state.specs.Tasks.{idle_again, is_dispatched}
use Rattle.spec_state.specs.Groups.{logged_tasks, logged_task}
use Rattle.spec_law.specs.Sound.{StandsAs, SoundMemory, SoundTasks}
use Rattle.spec_law.proofs.Accesses.Noted.{none_noted}
use Rattle.spec_law.proofs.Moves.Moving.{Moves, moved_to, runs_still, runs_was}
use Rattle.fractal_vt.proofs.Proved.{mapped_some}

-- a task that stands so and is not dispatched is idle, and has done nothing
pub stands_idle : (image : ImageValue) (version budget : ℕ) (t : Task) (s : Status) → StandsAs image version budget t s
    → is_dispatched t ≡ false → t ≡ idle_again version t
stands_idle image version budget t Idle stands off = stands
stands_idle image version budget t (Running core) stands off = absurd (cc (stands.0, off))
stands_idle image version budget t (Trapped core cause) stands off = absurd (cc (stands.0, off))
stands_idle image version budget t Finished stands off = absurd (cc (stands.0, off))

-- what memory reads of dispatched tasks stays, where these do
logs_stay : (one other : View)
    → ((k : ℕ) (t : Task) → task_at one k ≡ Some t → is_dispatched t ≡ true → task_at other k ≡ Some t)
    → (id : ℕ) (x : Logged) → x.dispatched ≡ true → logged_tasks one id ≡ Some x → logged_tasks other id ≡ Some x
logs_stay one other stays id x runs at =
    let read = mapped_some logged_task (task_at one id) x at in
    ap (option_map logged_task) (stays id read.0 read.1 (sym (ap (λ y. y.dispatched) read.2) ∙ runs))
    ∙ ap Some (sym read.2)

module _ (image : ImageValue) (old new : View) (heir : Option ℕ) (serial : SerialState) (moves : Moves old new) (tasks : SoundTasks image old heir serial) where
  -- an idle task has an empty log
  log_idle : (id : ℕ) (x : Logged) → logged_tasks new id ≡ Some x → x.dispatched ≡ false → x.log ≡ []
  log_idle id x at off =
      let read = mapped_some logged_task (task_at new id) x at in
      let idle : read.0 ≡ idle_again old.version read.0 = elim (moves.queued id read.0 read.1) [
        | inl was ↦ stands_idle image old.version old.settings.budget read.0 read.0.status (tasks.stands id read.0 was) (sym (ap (λ y. y.dispatched) read.2) ∙ off)
        | inr spilled ↦ spilled.2.idle
      ] in
      ap (λ y. y.log) read.2 ∙ ap (λ t. t.log) idle

  -- for memory idle tasks come and go
  keeps : KeepsDispatched (logged_tasks old) (logged_tasks new)
  keeps =
      record {
        stay =
            λ id x runs. (logs_stay old new (runs_still old new moves) id x runs, logs_stay new old (runs_was old new moves) id x runs);
        idle = log_idle;
      }

  -- which keeps the chain of accesses, and what filters say of logs
  pub moved_memory : SoundMemory old serial → SoundMemory (moved_to old new) serial
  moved_memory sound =
      record {
        chained =
            idle_tasks_keep_chain old.settings.line (logged_tasks old) (logged_tasks new) serial.memory old.memory keeps sound.chained;
        noted = λ id t at. elim (moves.queued id t at) [
          | inl was ↦ sound.noted id t was
          | inr spilled ↦
              subst (λ t. HasNotes old.settings t.lines t.log) (sym spilled.2.idle) (none_noted old.settings)
        ];
      }
