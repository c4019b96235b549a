-- What a book leaves once it is closed.
use Rattle.std.specs.Prelude.{◌≡◌, ℕ, true}
use Rattle.outcome_law.specs.serial_machine.declared.whole_run.SerialRun.{SerialRun}
use Rattle.outcome_law.specs.spec_state.Aborts.{IsUndone}
use Rattle.outcome_law.specs.event_def.Book.{BookView}

-- the run has the journal and the output of the book, and the memory that is left once all its uncommitted tasks are
-- aborted; and so many events were counted
pub record LeavesRun (book : BookView) (events : ℕ) (run : SerialRun) : Type 0 where
  pub journal_is : run.journal ≡ book.view.history
  pub output_is : run.output ≡ book.view.output
  pub memory_is : IsUndone book.view (λ id. true) run.memory
  pub events_are : events ≡ book.steps
