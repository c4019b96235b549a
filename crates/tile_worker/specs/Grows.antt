-- How a run goes on.
use Rattle.std.specs.Prelude.{◌≡◌, ◌++◌, ℕ, List}
use Rattle.run_journal.specs.declared.journal.Entry.{Entry}
use Rattle.conflict_book.specs.spec_state.View.{View}

-- the journal goes on where it ended, and so does the output
pub record Grows (old new : View) : Type 0 where
  pub entries : List Entry
  pub history : new.history ≡ old.history ++ entries
  pub bytes : List ℕ
  pub output : new.output ≡ old.output ++ bytes
