-- The lines that a task touched and wrote, according to its filter. These definitions alone depend on the filter's
-- kind, which the settings name: `Modulo` hashes a line to its number modulo 1,024, `Bloom` to eight bits, and `Exact`
-- has no false positives, because it looks the line up in the task's own log. Of the rest, only the code depends on it.
use Rattle.std.specs.Prelude.{ℕ, Bool, List}
use Rattle.line_table.specs.Note.{wrote_in}
use Rattle.line_table.specs.Lines.{IsLines, touched_by, wrote_by}
pub use Rattle.line_table.specs.Lines.{unmarked}
pub use Rattle.line_table.specs.declared.lines.Lines.{Lines}
use Rattle.memory_law.specs.Notes.{notes_of}
use Rattle.undo_log.specs.declared.access.Access.{Access}
use Rattle.spec_state.specs.declared.settings.Settings.{Settings}
use Rattle.spec_state.specs.declared.task.Task.{Task}

-- by these settings the filter has the notes of this log, and no others
abbrev pub HasNotes : Settings → Lines → List Access → Type 0
HasNotes settings lines log = IsLines settings.filter settings.line lines (notes_of settings.line log)

-- the task touched the line, by its filter
abbrev pub has_touched : Task → ℕ → Bool
has_touched task = touched_by task.lines (notes_of task.lines.size task.log)

-- the task wrote the line, by its filter
abbrev pub has_written : Task → ℕ → Bool
has_written task = wrote_by task.lines (notes_of task.lines.size task.log)

-- the task's log has a store to the line, where a line has so many bytes
abbrev pub has_stored : ℕ → Task → ℕ → Bool
has_stored size task = wrote_in (notes_of size task.log)
