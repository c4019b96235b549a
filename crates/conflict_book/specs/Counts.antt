-- How far a run has come.
use Rattle.std.specs.Prelude.{length}
use Rattle.progress_cell.specs.declared.reading.Reading.{Reading}
use Rattle.event_step.specs.spec_state.View.{View}

-- how many tasks are committed, and how many bytes these emitted
abbrev pub counts_of : View → Reading
counts_of view = record { commits = length view.history; output = length view.output }
