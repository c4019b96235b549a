-- A dispatch keeps the group of memory.
use Rattle.std.proofs.Common.{◌≡◌, ◌≢◌, ◌⊎◌, ◌<◌, ℕ, true, Option, Some, refl, sym, ap, subst, ◌∙◌, inl, inr, arith}
use Rattle.std.proofs.Common.{option_map}
use Rattle.std.specs.Ordering.{ordering_reverse}
use Rattle.std.specs.declared.cmp.Ordering.{Ordering}
use Rattle.std.specs.declared.cmp.Ordering.TheVariants.{Less, Equal, Greater}
use Rattle.fractal_vt.specs.Keys.{key_cmp}
use Rattle.fractal_vt.proofs.Proved.{equal_keys_tie, key_cmp_total, mapped_some}
use Rattle.memory_law.specs.Events as memory
use Rattle.memory_law.specs.Tasks.{Logged, Earlier}
use Rattle.memory_law.proofs.Proved.{dispatch_keeps_chain}
use Rattle.spec_state.specs.serial_machine.State.{SerialState}
use Rattle.spec_state.specs.declared.task.Task.{Task}
use Rattle.spec_state.specs.View.{View, task_at}
use Rattle.spec_state.specs.Filters.{HasNotes}
use Rattle.spec_state.specs.Tasks.{idle_again, is_dispatched}
use Rattle.spec_state.specs.Groups.{keyed_task, logged_tasks, logged_task}
use Rattle.spec_state.specs.Changes.{Dispatches}
use Rattle.spec_law.specs.Sound.{SoundMemory, SoundOrder}
use Rattle.spec_law.proofs.Dispatches.One.{after, now, was, was_this, each_after}
use Rattle.spec_law.proofs.Tasks.Beside.{queued_stands}

module _ (old new : View) (heir : Option ℕ) (tile : ℕ) (d : Dispatches tile old new) (idle : d.task ≡ idle_again old.version d.task) (order : SoundOrder old heir) where
  -- what memory reads of the task that is dispatched
  abbrev started_log : Logged
  started_log = logged_task (now old new tile d)

  -- no task of before has its key, whose number is new
  none_tied : (k : ℕ) (t : Task) → task_at old k ≡ Some t → t.key ≡ (now old new tile d).key → ⊥
  none_tied k t there same =
      let below : old.next < old.next = order.order.number_below k (keyed_task t) old.next (queued_stands old heir k t there) (ap (λ key. key.tb) same) in
      omega (arith, below)

  -- so each other dispatched task is before it or behind it
  earlier : (k : ℕ) (x : Logged) → k ≢ d.id → logged_tasks old k ≡ Some x → x.dispatched ≡ true
      → Earlier x started_log ⊎ Earlier started_log x
  earlier k x other at runs =
      let read = mapped_some logged_task (task_at old k) x at in
      subst (λ y. Earlier y started_log ⊎ Earlier started_log y) (sym read.2) (by_order read.0 read.1 (key_cmp read.0.key (now old new tile d).key) refl)
    where
      by_order : (t : Task) → task_at old k ≡ Some t → (o : Ordering) → key_cmp t.key (now old new tile d).key ≡ o
          → Earlier (logged_task t) started_log ⊎ Earlier started_log (logged_task t)
      by_order t there Less is = inl is
      by_order t there Equal is = absurd (none_tied k t there ((equal_keys_tie t.key (now old new tile d).key).0 is))
      by_order t there Greater is = inr (key_cmp_total.antisymm (now old new tile d).key t.key ∙ ap ordering_reverse is)

  -- for memory an idle task is dispatched with an empty log
  dispatches : memory.DispatchesInLogs (logged_tasks old) (logged_tasks new) d.id started_log
  dispatches =
      record {
        idle = λ x at. (
            let read = mapped_some logged_task (task_at old d.id) x at in
            let same : read.0 ≡ d.task = was_this old new tile d d.id read.0 refl read.1 in
            ap (λ y. y.dispatched) read.2 ∙ ap is_dispatched same ∙ ap is_dispatched idle
            );
        changed = ap (option_map logged_task) d.changes.changed;
        others = λ k other. ap (option_map logged_task) (d.changes.others k other);
        dispatched = refl;
        log = ap (λ t. t.log) idle;
        ordered = earlier;
      }

  -- which keeps the chain of accesses, and what filters say of logs
  pub dispatched_memory : (serial : SerialState) → SoundMemory old serial → SoundMemory (after old new tile d) serial
  dispatched_memory serial sound =
      record {
        chained =
            dispatch_keeps_chain old.settings.line (logged_tasks old) (logged_tasks new) d.id started_log serial.memory old.memory dispatches sound.chained;
        noted = each_after old new tile d (λ k t. HasNotes old.settings t.lines t.log)
            (sound.noted d.id d.task (was old new tile d)) (λ k t other there. sound.noted k t there);
      }
