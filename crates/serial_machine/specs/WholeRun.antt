-- The run of an image to its end, turn by turn.
use Rattle.std.specs.Prelude.{◌≡◌, ◌≢◌, ◌≤◌, ◌+◌, ℕ, List, [], ◌∷◌, ◌++◌, length, Some, IfSome}
use Rattle.guest_image.specs.ImageValue.{ImageValue}
use Rattle.run_journal.specs.declared.end.End.{End}
use Rattle.run_journal.specs.declared.end.End.TheVariants as ends
use Rattle.run_journal.specs.declared.journal.Entry.{Entry}
use Rattle.task_desc.specs.declared.desc.Name.{Name}
use Rattle.serial_machine.specs.declared.fault.TurnFault.{TurnFault}
use Rattle.serial_machine.specs.declared.fault.TurnFault.TheVariants as faults
use Rattle.serial_machine.specs.declared.whole_run.TurnAnswer.{TurnAnswer}
use Rattle.serial_machine.specs.declared.whole_run.TurnAnswer.TheVariants as advances
use Rattle.serial_machine.specs.declared.whole_run.SerialRun.{SerialRun}
use Rattle.serial_machine.specs.Run.{IsEnd, IsRun}
use Rattle.serial_machine.specs.State.{SerialState, SerialValue}
use Rattle.serial_machine.specs.Turn.{turn, inner, TrapsSo}

-- the journal is a run of the image of at most so many turns, which led to this memory and this output, and ended
-- so if it has an end
pub record IsRunOf (image : ImageValue) (commits budget : ℕ) (run : SerialRun) : Type 0 where
  pub state : SerialState
  pub is_run : IsRun image budget run.journal state
  pub within : length run.journal ≤ commits
  pub memory_is : run.memory ≡ state.memory
  pub output_is : run.output ≡ state.output
  pub end_is : IfSome run.end (IsEnd image budget commits run.journal state)

-- a turn was taken, and its entry stands last in the journal
pub record IsTaken (image : ImageValue) (old new : SerialValue) (journal journal' : List Entry) : Type 0 where
  pub entry : Entry
  pub turned : turn image old.budget old.state entry.name ≡ Some (new.state, entry)
  pub told : journal' ≡ journal ++ entry ∷ []
  pub counted : new.state.count ≡ old.state.count + 1
  pub budget : new.budget ≡ old.budget

-- the run stops here: no task is pending, or one that may take the next turn traps
abbrev pub IsStop : ImageValue → SerialValue → End → Type 0
IsStop image serial ends.Normal = inner serial.state.stack ≡ []
IsStop image serial (ends.Trap name cause pc) = TrapsSo image serial.budget serial.state name cause pc
IsStop image serial ends.Limit = ⊥
IsStop image serial ends.Unfinished = ⊥

-- the result of a turn, from one machine and journal to another
abbrev pub TurnAdvances : ImageValue → (old new : SerialValue) → (journal journal' : List Entry) → TurnAnswer → Type 0
TurnAdvances image old new journal journal' advances.Taken = IsTaken image old new journal journal'
TurnAdvances image old new journal journal' (advances.Over end) = IsStop image old end × (new ≡ old)
    × (journal' ≡ journal)
TurnAdvances image old new journal journal' advances.Wanting = (new ≡ old) × (journal' ≡ journal)

-- a trap, or want of memory
abbrev pub IsTrapOrMemory : TurnFault → Type 0
IsTrapOrMemory faults.NotPending = ⊥
IsTrapOrMemory (faults.NotTop depth) = ⊥
IsTrapOrMemory (faults.NotLeast ts) = ⊥
IsTrapOrMemory (faults.Trap cause pc) = Unit {0}
IsTrapOrMemory faults.Memory = Unit {0}

-- a trap ends the run, and want of memory stops it
abbrev pub IsStopOf : Name → TurnFault → TurnAnswer → Type 0
IsStopOf name faults.NotPending found = ⊥
IsStopOf name (faults.NotTop depth) found = ⊥
IsStopOf name (faults.NotLeast ts) found = ⊥
IsStopOf name (faults.Trap cause pc) found = found ≡ advances.Over (ends.Trap name cause pc)
IsStopOf name faults.Memory found = found ≡ advances.Wanting

-- as many turns as may be were taken: a task is pending, or none is
abbrev pub IsLimitEnd : SerialState → End → Type 0
IsLimitEnd s ends.Normal = inner s.stack ≡ []
IsLimitEnd s ends.Limit = inner s.stack ≢ []
IsLimitEnd s (ends.Trap name cause pc) = ⊥
IsLimitEnd s ends.Unfinished = ⊥
