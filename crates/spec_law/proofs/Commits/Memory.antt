-- A commit of the least task keeps the group of memory, against the memory that its log leaves.
use Rattle.std.proofs.Common.{◌≡◌, ◌≢◌, ℕ, true, Option, Some, sym, ap, subst, map, is_some, option_map}
use Rattle.fractal_vt.specs.Levels.{closed_level}
use Rattle.memory_law.specs.Accesses.{after_accesses, Replays}
use Rattle.memory_law.specs.Chain.{IsChained}
use Rattle.memory_law.specs.Events as memory
use Rattle.memory_law.specs.Notes.{notes_of}
use Rattle.memory_law.specs.Tasks.{Logged, Earlier}
use Rattle.memory_law.proofs.Proved.{commit_keeps_chain}
use Rattle.order_law.proofs.Proved.{least_is_below}
use Rattle.spec_state.specs.serial_machine.State.{SerialState}
use Rattle.spec_state.specs.View.{View, task_at}
use Rattle.spec_state.specs.Filters.{HasNotes}
use Rattle.spec_state.specs.Groups.{all_keyed, keyed_task, logged_tasks, logged_task}
use Rattle.spec_state.specs.Changes.{Commits}
use Rattle.spec_law.specs.Sound.{SoundMemory, SoundOrder, SoundSizes}
use Rattle.spec_law.proofs.Commits.Taken.{leaves, logged_stays, each_left}
use Rattle.spec_law.proofs.Commits.Order.{least_of_all}
use Rattle.spec_law.proofs.Tasks.Beside.{queued_stands}
use Rattle.fractal_vt.proofs.Proved.{mapped_some}

module _ (old new : View) (commit : Commits old new) (sizes : SoundSizes old) (heir : Option ℕ) (order : SoundOrder old heir) (n : ℕ) (tie : commit.task.key.tb ≡ Some n) where
  -- for memory it is a commit of the earliest task
  logs_commit : memory.CommitsInLogs (logged_tasks old) (logged_tasks new) commit.id (logged_task commit.task)
  logs_commit =
      record {
        there = ap (option_map logged_task) commit.least.queued_at.there;
        dispatched = ap is_some tie;
        least = least;
        gone = ap (option_map logged_task) (leaves old new commit);
        others = logged_stays old new commit;
      }
    where
      least : (k : ℕ) (other : Logged) → k ≢ commit.id → logged_tasks old k ≡ Some other → other.dispatched ≡ true
          → Earlier (logged_task commit.task) other
      least k other apart at runs =
          let read = mapped_some logged_task (task_at old k) other at in
          subst (Earlier (logged_task commit.task)) (sym read.2)
          (least_is_below (all_keyed old heir) (map closed_level old.path) old.next commit.id n (keyed_task commit.task) order.order
          (least_of_all old sizes heir commit.id commit.task commit.least) tie k (keyed_task read.0) apart (queued_stands old heir k read.0 read.1))

  module _ (serial : SerialState) (sound : SoundMemory old serial) where
    -- the log replays, and the others chain from the memory that it leaves
    both : Replays serial.memory commit.task.log × IsChained old.settings.line (logged_tasks new) (after_accesses serial.memory commit.task.log) old.memory
    both =
        commit_keeps_chain old.settings.line (logged_tasks old) (logged_tasks new) commit.id (logged_task commit.task) serial.memory old.memory logs_commit sound.chained

    pub log_replays : Replays serial.memory commit.task.log
    log_replays = both.0

    pub commit_keeps_memory : (after : SerialState) → after.memory ≡ after_accesses serial.memory commit.task.log
        → SoundMemory new after
    commit_keeps_memory after is =
        let line : new.settings.line ≡ old.settings.line = ap (λ v. v.settings.line) commit.frame in
        let memory_is : new.memory ≡ old.memory = ap (λ v. v.memory) commit.frame in
        record {
          chained = subst (λ l. IsChained l (logged_tasks new) after.memory new.memory) (sym line)
              (subst (λ m. IsChained old.settings.line (logged_tasks new) m new.memory) (sym is)
              (subst (IsChained old.settings.line (logged_tasks new) (after_accesses serial.memory commit.task.log)) (sym memory_is) both.1));
          noted = each_left old new commit (λ k t. HasNotes new.settings t.lines t.log)
              (λ k t other there. subst (λ s. HasNotes s t.lines t.log) (sym (ap (λ v. v.settings) commit.frame))
              (sound.noted k t there));
        }
