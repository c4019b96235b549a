-- The whole of a commit: a finished least task whose log replays takes the serial machine's next turn; and a trapped
-- one traps there too.
use Rattle.std.specs.Prelude.{◌≡◌, ℕ, ◌+◌, Bool, true, List, ◌∷◌, ◌++◌, length, Option, Some}
use Rattle.guest_image.specs.ImageValue.{ImageValue}
use Rattle.undo_log.specs.declared.access.Access.{Access}
use Rattle.run_law.specs.serial_machine.State.{SerialState, IsStack}
use Rattle.run_law.specs.serial_machine.TaskState.{TaskState}
use Rattle.run_law.specs.serial_machine.Turn.{turn, TrapsSo}
use Rattle.task_law.specs.Tasks.{BagTask, SpilledBagTask, pending}
use Rattle.task_law.specs.Sound.{AreSound}
use Rattle.task_law.specs.Commit.{Matches, IsLeastInBags, IsNextTurn}
use Rattle.task_law.specs.Domains.{Domain, FitsBags, context_of_domains}
use Rattle.memory_law.specs.Accesses.{after_accesses, Replays}
use Rattle.task_law.specs.Logged.{FinishesWithLog, TrapsWithLog}

-- a finished least task: its run by its log, from its own context, made its end call, and the log replays on the serial
-- memory
pub record IsReadyToCommit (image : ImageValue) (budget : ℕ) (s : SerialState) (task : BagTask) (turn index : ℕ)
    (own : Domain)
    (outer : List Domain) (log : List Access) (after : TaskState) : Type 0 where
  pub fits : FitsBags (own ∷ outer) s.stack
  pub deep : task.depth ≡ length outer + 1
  pub finished : FinishesWithLog image budget (length s.memory) (context_of_domains image.version own outer task.ts)
      (pending turn index task.body task.ts) log after
  pub spawns : task.spawns ≡ after.spawns
  pub replays : Replays s.memory log

-- the state after the commit is that after the serial turn of the task, and its pending tasks are the free ones
pub record IsSerialTurn (image : ImageValue) (budget : ℕ) (s : SerialState) (new : ℕ → Option BagTask)
    (spilled : List SpilledBagTask) (task : BagTask) (turn_number index : ℕ) (log : List Access) (after : TaskState)
    (state : SerialState) : Type 0 where
  pub taken : turn image budget s (record { creator = turn_number; index = index })
      ≡ Some (
        state,
        record { name = record { creator = turn_number; index = index }; depth = task.depth; ts = task.ts },
      )
  pub stack : IsStack state.stack
  pub matches : Matches (s.count + 1) new spilled state.stack
  pub memory : state.memory ≡ after_accesses s.memory log
  pub output : state.output ≡ s.output ++ after.bytes
  pub count : state.count ≡ s.count + 1

-- a finished least task commits as the serial machine's next turn
abbrev pub LeastCommitsSerially : Type 0
LeastCommitsSerially =
    (image : ImageValue) (budget id turn_number index : ℕ) (s : SerialState) (old new : ℕ → Option BagTask)
    (spilled : List SpilledBagTask) (task : BagTask)
    (own : Domain) (outer : List Domain) (log : List Access) (after : TaskState)
    → AreSound s.count id true old spilled → Matches s.count old spilled s.stack → IsStack s.stack
    → IsLeastInBags s.count old spilled id task turn_number index → IsNextTurn s.count old new id task turn_number index
    → IsReadyToCommit image budget s task turn_number index own outer log after
    → (state : SerialState) × IsSerialTurn image budget s new spilled task turn_number index log after state

-- a trapped least task whose log replays on the serial memory may take the serial machine's next turn, and its run
-- there ends in the same trap
abbrev pub LeastTrapsSerially : Type 0
LeastTrapsSerially =
    (image : ImageValue) (budget id turn_number index : ℕ) (runs : Bool) (s : SerialState) (tasks : ℕ → Option BagTask)
    (spilled : List SpilledBagTask) (task : BagTask)
    (own : Domain) (outer : List Domain) (log : List Access) (cause pc : ℕ)
    → AreSound s.count id runs tasks spilled → Matches s.count tasks spilled s.stack → IsStack s.stack
    → IsLeastInBags s.count tasks spilled id task turn_number index → FitsBags (own ∷ outer) s.stack
    → task.depth ≡ length outer + 1
    → TrapsWithLog image budget (length s.memory) (context_of_domains image.version own outer task.ts)
    (pending turn_number index task.body task.ts) log cause pc
    → Replays s.memory log
    → TrapsSo image budget s (record { creator = turn_number; index = index }) cause pc
