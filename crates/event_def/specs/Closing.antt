-- What a closed book leaves.
use Rattle.std.specs.Prelude.{◌≡◌}
use Rattle.spec_state.specs.View.{View}
use Rattle.spec_state.specs.Aborts.{UndoesAll}
use Rattle.run_journal.specs.declared.closed.Closed.{Closed}
use Rattle.event_def.specs.Book.{BookView}

-- the journal, the output and the memory that an abort of all uncommitted tasks leaves, and the count of events
pub record Closes (book : BookView) (closed : Closed) : Type 0 where
  pub left : View
  pub undone : UndoesAll book.view left
  pub journal : closed.journal ≡ left.history
  pub output : closed.output ≡ left.output
  pub memory : closed.memory ≡ left.memory
  pub steps : closed.steps ≡ book.steps
