-- What the filters of the tasks of a sound view report.
use Rattle.std.specs.Prelude.{◌≡◌, ◌↔◌, ℕ, true, false, [], length, Some}
use Rattle.guest_image.specs.ImageValue.{ImageValue}
use Rattle.line_table.specs.declared.lines.FilterKind.TheVariants.{Modulo, Exact}
use Rattle.line_table.specs.Note.{touched_in, wrote_in, Meet}
use Rattle.memory_law.specs.Notes.{notes_of}
use Rattle.memory_law.specs.Tasks.{AreNotedInFilter}
use Rattle.spec_state.specs.declared.task.Task.{Task}
use Rattle.spec_state.specs.View.{View, task_at}
use Rattle.spec_state.specs.Filters.{has_stored, has_touched, has_written}
use Rattle.spec_law.specs.Sound.{Sound}

-- the filter of each task, of whatever kind, leaves out no access of its log, which is all that the laws of memory ask
-- of it
abbrev pub FiltersLeaveNoneOut : Type 0
FiltersLeaveNoneOut =
    (image : ImageValue) (view : View) (id : ℕ) (task : Task) → Sound image view → task_at view id ≡ Some task
    → AreNotedInFilter (length view.memory) view.settings.line (has_touched task) (has_written task) task.log

-- facts about a line and a filter of any kind, where these are the notes of its task's log: a noted line is reported; a
-- line reported as written is also reported as touched; where nothing was noted nothing is reported
pub record TellsNoted (task : Task) (size line : ℕ) : Type 0 where
  pub touched : touched_in (notes_of size task.log) line ≡ true → has_touched task line ≡ true
  pub written : wrote_in (notes_of size task.log) line ≡ true → has_written task line ≡ true
  pub both : has_written task line ≡ true → has_touched task line ≡ true
  pub none : task.log ≡ [] → (has_touched task line ≡ false) × (has_written task line ≡ false)

-- the filter of each task reports each line that its log has noted
abbrev pub FiltersTell : Type 0
FiltersTell =
    (image : ImageValue) (view : View) (id : ℕ) (task : Task) (line : ℕ) → Sound image view
    → task_at view id ≡ Some task → TellsNoted task view.settings.line line

-- an exact filter reports the lines that its log has noted, and nothing else
abbrev pub ExactFiltersTell : Type 0
ExactFiltersTell =
    (image : ImageValue) (view : View) (id : ℕ) (task : Task) (line : ℕ) → Sound image view
    → task_at view id ≡ Some task → view.settings.filter ≡ Exact
    → (has_touched task line ≡ touched_in (notes_of view.settings.line task.log) line)
    × (has_written task line ≡ wrote_in (notes_of view.settings.line task.log) line)

-- a task's filter of the kind Modulo reports a line to which another task's log has a store exactly where it reports a
-- line that the other task's filter reports as written: where the two have a bit in common
abbrev pub ModuloPullsByBits : Type 0
ModuloPullsByBits =
    (image : ImageValue) (view : View) (a b : ℕ) (writer reader : Task) → Sound image view
    → view.settings.filter ≡ Modulo → task_at view a ≡ Some writer → task_at view b ≡ Some reader
    → Meet (has_stored view.settings.line writer) (has_touched reader)
    ↔ Meet (has_written writer) (has_touched reader)
