-- A report that was written is read back.
use Rattle.std.specs.Prelude.{ℕ, ◌≡◌, ◌^◌, ◌<◌, ◌≤◌, List, length, Ok}
use Rattle.std.specs.List.{AllByRecursion}
use Rattle.guest_image.specs.ImageValue.{ImageValue, IsImage}
use Rattle.task_desc.specs.declared.desc.Name.{Name}
use Rattle.undo_log.specs.Number.{AreBytes}
use Rattle.run_journal.specs.declared.journal.Entry.{Entry}
use Rattle.run_journal.specs.declared.end.End.{End}
use Rattle.run_journal.specs.declared.end.End.TheVariants as ends
use Rattle.report_text.specs.declared.limits.TheConstants.{MAX_ENTRIES, MAX_DEPTH, MAX_CAUSE}
use Rattle.report_text.specs.Report.{report, window_of}
use Rattle.report_text.specs.Grammar.{report_of}

-- a name of two words
pub record IsName (name : Name) : Type 0 where
  pub creator : name.creator < 2 ^ 32
  pub index : name.index < 2 ^ 32

-- an entry of words, with a depth that the grammar has
pub record EntryFits (e : Entry) : Type 0 where
  pub name : IsName e.name
  pub least : 1 ≤ e.depth
  pub greatest : e.depth ≤ MAX_DEPTH
  pub ts : e.ts < 2 ^ 32

-- a trap of words, with a cause that the grammar has
pub record TrapFits (name : Name) (cause pc : ℕ) : Type 0 where
  pub name_fits : IsName name
  pub least : 1 ≤ cause
  pub greatest : cause ≤ MAX_CAUSE
  pub pc_fits : pc < 2 ^ 32

-- an end that the grammar has
abbrev pub EndFits : End → Type 0
EndFits ends.Normal = Unit {0}
EndFits ends.Limit = Unit {0}
EndFits ends.Unfinished = Unit {0}
EndFits (ends.Trap name cause pc) = TrapFits name cause pc

-- what is written of a run reads back as that run's report, where the number of its entries, their depths and the cause
-- of its end are in the grammar's ranges
abbrev pub ReportReadsBack : Type 0
ReportReadsBack = (image : ImageValue) (journal : List Entry) (memory output : List ℕ) (end : End)
    → IsImage image → length journal ≤ MAX_ENTRIES → AllByRecursion EntryFits journal
    → AreBytes memory → AreBytes output → EndFits end
    → report_of (report image journal memory output end)
    ≡ Ok (record { journal = journal; output = output; window = window_of image memory; end = end })
