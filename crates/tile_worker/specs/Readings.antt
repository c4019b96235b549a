-- Readings of a journal.
use Rattle.std.specs.Prelude.{◌≡◌, ◌≤◌, ℕ, List, All, length, take}
use Rattle.atomic_table.specs.Seated.{TableId}
use Rattle.guest_image.specs.ImageValue.{ImageValue}
use Rattle.progress_cell.specs.Board.{WriterValue}
use Rattle.progress_cell.specs.Readings.{StandsIn, last_of, opening_reading}
use Rattle.progress_cell.specs.declared.reading.Reading.{Reading}
use Rattle.run_journal.specs.declared.journal.Entry.{Entry}
use Rattle.conflict_book.specs.serial_machine.Run.{IsRun}
use Rattle.conflict_book.specs.serial_machine.State.{SerialState}
use Rattle.conflict_book.specs.spec_state.View.{View}
use Rattle.conflict_book.specs.Counts.{counts_of}

-- the journal has at least so many entries, and the run of these first ones emitted so many bytes
pub record IsReading (image : ImageValue) (budget : ℕ) (journal : List Entry) (reading : Reading) : Type 0 where
  pub within : reading.commits ≤ length journal
  pub after : SerialState
  pub is_run : IsRun image budget (take reading.commits journal) after
  pub output : reading.output ≡ length after.output

-- each of these is a reading of the journal; a caller gets of that what has one proof at most, such as a bound
abbrev pub AreReadings : ImageValue → ℕ → List Entry → List Reading → Type 0
AreReadings image budget journal readings = All (λ reading. ∥ IsReading image budget journal reading ∥₁) readings

-- the writer belongs to this board, and all that it has written are readings of the view's journal, the last one its
-- counts
pub record HasTold (image : ImageValue) (budget : ℕ) (board : TableId) (view : View) (writer : WriterValue)
    : Type 0 where
  pub belongs : writer.board ≡ board
  pub readings : AreReadings image budget view.history writer.told
  pub last : last_of writer.told ≡ counts_of view

-- nothing committed and nothing emitted is a reading of every journal
abbrev pub OpeningIsReading : Type 0
OpeningIsReading = (image : ImageValue) (budget : ℕ) (journal : List Entry)
    → IsReading image budget journal opening_reading

-- where all that was written are readings of a journal, so are all that a joined reader saw
abbrev pub SeenAreReadings : Type 0
SeenAreReadings =
    (image : ImageValue) (budget : ℕ) (journal : List Entry) (seen told : List Reading)
    → AreReadings image budget journal told → StandsIn seen told → AreReadings image budget journal seen
