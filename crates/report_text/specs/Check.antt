-- Whether a report is that of a run, or which of its lines is the first that isn't.
use Rattle.std.specs.Prelude.{ℕ, ◌≡◌, ◌≢◌, ◌<◌, ◌≤◌, ◌+◌, ◌⊎◌, List, length, take, Some, None, slice_get}
use Rattle.std.specs.declared.option.Option.{Option}
use Rattle.guest_image.specs.ImageValue.{ImageValue}
use Rattle.run_journal.specs.declared.journal.Entry.{Entry}
use Rattle.run_law.specs.serial_machine.declared.fault.TurnFault.{TurnFault}
use Rattle.run_law.specs.serial_machine.declared.fault.TurnFault.TheVariants as faults
use Rattle.run_law.specs.serial_machine.State.{SerialState}
use Rattle.run_law.specs.serial_machine.Turn.{turn, RefusesTurn}
use Rattle.run_law.specs.serial_machine.Run.{IsRun, IsEnd}
use Rattle.run_law.specs.Laws.{AreLawful}
use Rattle.report_text.specs.declared.report.Report.{Report}
use Rattle.report_text.specs.declared.verdict.Examined.{Examined}
use Rattle.report_text.specs.declared.verdict.Examined.TheVariants as examined
use Rattle.report_text.specs.declared.verdict.Verdict.{Verdict}
use Rattle.report_text.specs.declared.verdict.Verdict.TheVariants as verdicts
use Rattle.report_text.specs.Report.{window_of}

-- the entries make a run within the commit limit, which leads to this state
pub record IsReplayed (image : ImageValue) (commits budget : ℕ) (journal : List Entry)
    (after : SerialState) : Type 0 where
  pub run : IsRun image budget journal after
  pub within : length journal ≤ commits

-- the task of an entry takes its turn, and the entry has another depth or timestamp
pub record DiffersFromTurn (image : ImageValue) (budget : ℕ) (s : SerialState) (entry : Entry) : Type 0 where
  pub after : SerialState
  pub found : Entry
  pub turned : turn image budget s entry.name ≡ Some (after, found)
  pub other : found ≢ entry

-- why the entry at a place of the journal doesn't go on with the run that led to this state: the limit is reached, the
-- entry differs from its turn, or the serial machine refuses the turn so
abbrev pub IsNoTurn : ImageValue → ℕ → ℕ → ℕ → SerialState → Entry → Option TurnFault → Type 0
IsNoTurn image commits budget place s entry None =
    (place ≡ commits) ⊎ ((place < commits) × DiffersFromTurn image budget s entry)
IsNoTurn image commits budget place s entry (Some fault) =
    (place < commits) × RefusesTurn image budget s entry.name fault × (fault ≢ faults.Memory)

-- the line has the first entry that isn't the run's
pub record IsWrongEntry (image : ImageValue) (commits budget : ℕ) (journal : List Entry)
    (line : ℕ) (why : Option TurnFault) : Type 0 where
  pub place : ℕ
  pub told : line ≡ place + 2
  pub state : SerialState
  pub run : IsRun image budget (take place journal) state
  pub entry : Entry
  pub stands : slice_get journal place ≡ Some entry
  pub cause : IsNoTurn image commits budget place state entry why

-- the entries are the run's, and the output isn't
pub record IsWrongOutput (image : ImageValue) (commits budget : ℕ) (report : Report)
    (line : ℕ) (why : Option TurnFault) : Type 0 where
  pub told : line ≡ length report.journal + 2
  pub no_refusal : why ≡ None
  pub state : SerialState
  pub run : IsReplayed image commits budget report.journal state
  pub other : report.output ≢ state.output

-- at this place two lists differ for the first time, or one of them ends
pub record DifferFirst {X : Type 0} (xs ys : List X) (place : ℕ) : Type 0 where
  pub same : take place xs ≡ take place ys
  pub other : slice_get xs place ≢ slice_get ys place

-- the entries and the output are the run's, and the line has the first window word that isn't, or should have one or
-- none
pub record IsWrongWord (image : ImageValue) (commits budget : ℕ) (report : Report)
    (line : ℕ) (why : Option TurnFault) : Type 0 where
  pub place : ℕ
  pub told : line ≡ length report.journal + 3 + place
  pub no_refusal : why ≡ None
  pub state : SerialState
  pub run : IsReplayed image commits budget report.journal state
  pub output : report.output ≡ state.output
  pub other : DifferFirst report.window (window_of image state.memory) place

-- all lines but the last are the run's, and it doesn't end so
pub record IsWrongEnd (image : ImageValue) (commits budget : ℕ) (report : Report)
    (line : ℕ) (why : Option TurnFault) : Type 0 where
  pub told : line ≡ length report.journal + 3 + length report.window
  pub no_refusal : why ≡ None
  pub state : SerialState
  pub run : IsReplayed image commits budget report.journal state
  pub output : report.output ≡ state.output
  pub window : report.window ≡ window_of image state.memory
  pub other : IsEnd image budget commits report.journal state report.end → ⊥

-- the report is that of a run with these limits
pub record IsReportOf (image : ImageValue) (commits budget : ℕ) (report : Report) : Type 0 where
  pub state : SerialState
  pub run : IsReplayed image commits budget report.journal state
  pub output : report.output ≡ state.output
  pub window : report.window ≡ window_of image state.memory
  pub end : IsEnd image budget commits report.journal state report.end

-- whatever run the report is of meets the laws of runs
abbrev pub HasLawfulRun : ImageValue → (commits budget : ℕ) → Report → Type 0
HasLawfulRun image commits budget report =
    (accepted : IsReportOf image commits budget report) → AreLawful image budget report.journal accepted.state

-- what a verdict says of a report; the cases exclude each other, as `AgreeOnTheLine` says
abbrev pub IsVerdict : ImageValue → ℕ → ℕ → Report → Verdict → Type 0
IsVerdict image commits budget report verdicts.Yes = IsReportOf image commits budget report
IsVerdict image commits budget report (verdicts.Illegal line why) =
    IsWrongEntry image commits budget report.journal line why
    ⊎ IsWrongOutput image commits budget report line why
    ⊎ IsWrongWord image commits budget report line why
    ⊎ IsWrongEnd image commits budget report line why
IsVerdict image commits budget report verdicts.Memory = Unit {0}

-- the line that a verdict names, if it names one
abbrev pub line_of_verdict : Verdict → Option ℕ
line_of_verdict verdicts.Yes = None
line_of_verdict (verdicts.Illegal line why) = Some line
line_of_verdict verdicts.Memory = None

-- two verdicts on one report, neither of them Memory, name the same line, or both none
abbrev pub AgreeOnTheLine : Type 0
AgreeOnTheLine = (image : ImageValue) (commits budget : ℕ) (report : Report) (v w : Verdict)
    → v ≢ verdicts.Memory → w ≢ verdicts.Memory
    → IsVerdict image commits budget report v → IsVerdict image commits budget report w
    → line_of_verdict v ≡ line_of_verdict w

-- what an examination says of a report: a verdict, with the machine at the end of the run
abbrev pub IsExamined : ImageValue → ℕ → ℕ → Report → Examined → Type 0
IsExamined image commits budget report (examined.Yes serial) =
    (accepted : IsReportOf image commits budget report) × (serial.state ≡ accepted.state)
IsExamined image commits budget report (examined.Illegal line why) =
    IsVerdict image commits budget report (verdicts.Illegal line why)
IsExamined image commits budget report examined.Memory = Unit {0}
