-- What the replay of a journal finds, and how the run may end after it.
use Rattle.std.specs.Prelude.{ℕ, ◌≡◌, Bool, List, length, MatchBool}
use Rattle.guest_image.specs.ImageValue.{ImageValue}
use Rattle.run_journal.specs.declared.journal.Entry.{Entry}
use Rattle.run_journal.specs.declared.end.End.{End}
use Rattle.run_law.specs.serial_machine.Run.{IsEnd}
use Rattle.run_law.specs.serial_machine.State.{SerialValue}
use Rattle.report_text.specs.declared.verdict.NoRun.{NoRun}
use Rattle.report_text.specs.declared.verdict.NoRun.TheVariants as noruns
use Rattle.report_text.specs.Check.{IsWrongEntry}

-- the line has the first entry that isn't the run's, unless memory was wanting
abbrev pub IsNoRun : ImageValue → ℕ → ℕ → List Entry → NoRun → Type 0
IsNoRun image commits budget journal (noruns.Line line why) = IsWrongEntry image commits budget journal line why
IsNoRun image commits budget journal noruns.Memory = Unit {0}

-- whether any run of `count` turns that led to this machine ends so
abbrev pub TellsWhetherItEnds : ImageValue → (commits count : ℕ) → SerialValue → End → Bool → Type 0
TellsWhetherItEnds image commits count serial end told = (journal : List Entry) → length journal ≡ count
    → MatchBool told (IsEnd image serial.budget commits journal serial.state end)
    (IsEnd image serial.budget commits journal serial.state end → ⊥)
