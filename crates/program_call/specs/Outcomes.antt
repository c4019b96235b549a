-- What an outcome holds, and how one without a run is reported.
use Rattle.std.specs.Prelude.{◌≡◌, ◌≢◌, ℕ, List, [], None}
use Rattle.run_law.specs.serial_machine.declared.whole_run.SerialRun.{SerialRun}
use Rattle.sim_io.specs.Causes.{Rose}
use Rattle.sim_io.specs.Parts.{SinkTakes, TakesFront}
use Rattle.sim_io.specs.Streams.{SinkState}
use Rattle.program_call.specs.declared.outcome.Outcome.{Outcome}

-- the run that an outcome holds
abbrev pub closed_of : Outcome → SerialRun
closed_of o = record { journal = o.journal; memory = o.memory; output = o.output; end = o.end }

-- no run was made: journal, memory and output are empty, and end and count of events are none
pub record IsEmpty (o : Outcome) : Type 0 where
  pub journal : o.journal ≡ []
  pub memory : o.memory ≡ []
  pub output : o.output ≡ []
  pub end : o.end ≡ None
  pub steps : o.steps ≡ None

-- the line was written and the status answered, or the sink failed on it (7); the outcome is empty
pub record TellsLine (status : ℕ) (line : List ℕ) (old new : SinkState) (o : Outcome) : Type 0 where
  pub empty : IsEmpty o
  pub told : o.status ≢ 7 → (o.status ≡ status) × SinkTakes old new line
  pub failed : o.status ≡ 7 → Rose old.faults new.faults × TakesFront old new line

-- the line was written with this status, or memory ran out for the line (5) and nothing was written; the outcome is
-- empty
pub data TellsMadeLine (status : ℕ) (line : List ℕ) (old new : SinkState) (o : Outcome) : Type 0 where
  IsMade : TellsLine status line old new o → TellsMadeLine status line old new o
  IsWant : o.status ≡ 5 → IsEmpty o → new ≡ old → TellsMadeLine status line old new o
