-- What the laws use of filters: a new one has no notes, and one leaves out none of its notes.
use Rattle.std.proofs.Common.{◌≡◌, ◌++◌, ℕ, Bool, List, [], ◌∷◌, sym, subst, ◌∙◌}
use Rattle.std.proofs.lemmas.List.Elements.{All-push}
use Rattle.line_table.proofs.Proved.{none_are, noted_is_told}
use Rattle.memory_law.specs.Notes.{notes_of}
use Rattle.memory_law.specs.Tasks.{AreNotedInFilter}
use Rattle.memory_law.proofs.Proved.{noted_all, noted_within}
use Rattle.undo_log.specs.declared.access.Access.{Access}
use Rattle.undo_log.specs.Number.{IsAccessible}
use Rattle.undo_log.specs.Undo.{AllAccessible}
use Rattle.spec_state.specs.declared.settings.Settings.{Settings}
use Rattle.spec_state.specs.declared.task.Task.{Task}
use Rattle.spec_state.specs.Filters.{HasNotes, has_touched, has_written, unmarked}
use Rattle.spec_state.proofs.Proved.{told_touched, told_written}

-- the filter of a task that has done nothing has no notes
pub none_noted : (settings : Settings) → HasNotes settings unmarked []
none_noted settings = none_are settings.filter settings.line

-- a filter with the notes of a log leaves none of its accesses out
noted_now : (size : ℕ) (settings : Settings) (task : Task) → AllAccessible size task.log
    → HasNotes settings task.lines task.log
    → AreNotedInFilter size settings.line (has_touched task) (has_written task) task.log
noted_now size settings task within has =
    let notes = notes_of settings.line task.log in
    noted_all size settings.line (has_touched task) (has_written task) task.log within
    (record {
      touched_too = λ at is. told_touched settings task at has
          ∙ (noted_is_told settings.filter settings.line task.lines notes at has).0 is;
      wrote_too = λ at is. told_written settings task at has
          ∙ (noted_is_told settings.filter settings.line task.lines notes at has).1 is;
    })

-- a filter with the notes of a log and one access more leaves none of them out
pub noted_more : (size : ℕ) (settings : Settings) (touched wrote : ℕ → Bool) (log : List Access) (access : Access)
    (now : Task) → now.log ≡ log ++ access ∷ []
    → AreNotedInFilter size settings.line touched wrote log → IsAccessible size access.offset access.width
    → HasNotes settings now.lines now.log
    → AreNotedInFilter size settings.line (has_touched now) (has_written now) now.log
noted_more size settings touched wrote log access now is noted within has =
    noted_now size settings now
    (subst (AllAccessible size) (sym is)
    (All-push (λ a. IsAccessible size a.offset a.width) log access
    (noted_within size settings.line touched wrote log noted) within))
    has
