-- The notes of a log, looked for in the log itself.
use Rattle.std.proofs.Common.{◌≡◌, ◌==◌, ◌&&◌, ◌||◌, ◌/◌, ◌∙◌, ℕ, Bool, true, false, IsTrue, List, [], ◌∷◌, is_some}
use Rattle.std.proofs.Common.{refl, sym, ap}
use Prim.Native.Nat.div
use Rattle.std.specs.List.{list_any}
use Rattle.std.proofs.lemmas.Bool.{eqb-true, not-true}
use Rattle.line_table.specs.Note.{touched_in, wrote_in}
use Rattle.line_table.specs.declared.lines.FilterKind.{FilterKind}
use Rattle.line_table.specs.declared.lines.FilterKind.TheVariants.{Modulo, Bloom, Exact}
use Rattle.line_table.specs.Lines.{asks_too, is_ruled_out, touched_by, wrote_by}
use Rattle.memory_law.specs.Notes.{notes_of}
use Rattle.undo_log.specs.declared.access.Access.{Access}
use Rattle.spec_state.specs.declared.settings.Settings.{Settings}
use Rattle.spec_state.specs.declared.task.Task.{Task}
use Rattle.spec_state.specs.Filters.{HasNotes, Lines, has_touched, has_written}

-- where a line has no bytes, each offset is in line 0
pub no_line : (offset size : ℕ) → (size == 0) ≡ true → 0 ≡ offset / size
no_line offset size is = sym (ap (λ n. offset / n) (eqb-true size 0 is) ∙ div.zero offset)

pub any_access : (size line : ℕ) (log : List Access)
    → touched_in (notes_of size log) line ≡ list_any (λ (a : Access). a.offset / size == line) log
any_access size line [] = refl
any_access size line (access ∷ log) = ap (λ b. access.offset / size == line || b) (any_access size line log)

pub any_store : (size line : ℕ) (log : List Access)
    → wrote_in (notes_of size log) line ≡ list_any (λ (a : Access). is_some a.new && a.offset / size == line) log
any_store size line [] = refl
any_store size line (access ∷ log) =
    ap (λ b. (is_some access.new && access.offset / size == line) || b) (any_store size line log)

-- where a filter has the notes of a log, those are also the ones by its own number of bytes
own_notes : (settings : Settings) (lines : Lines) (log : List Access) → HasNotes settings lines log
    → notes_of lines.size log ≡ notes_of settings.line log
own_notes settings lines [] has = refl
own_notes settings lines (access ∷ log) has = ap (λ size. notes_of size (access ∷ log)) has.are_of.1

-- what one look rules out no filter tells
pub never_told : (kind : FilterKind) (bits noted : Bool) → IsTrue (is_ruled_out kind bits)
    → asks_too kind bits noted ≡ false
never_told Modulo bits noted out = not-true bits out
never_told Bloom bits noted out = absurd (cc out)
never_told Exact bits noted out = ap (λ b. b && noted) (not-true bits out)

-- what a task touched is told by the notes of its log
pub told_touched : (settings : Settings) (task : Task) (line : ℕ) → HasNotes settings task.lines task.log
    → has_touched task line ≡ touched_by task.lines (notes_of settings.line task.log) line
told_touched settings task line has =
    ap (λ notes. touched_by task.lines notes line) (own_notes settings task.lines task.log has)

-- and what it wrote
pub told_written : (settings : Settings) (task : Task) (line : ℕ) → HasNotes settings task.lines task.log
    → has_written task line ≡ wrote_by task.lines (notes_of settings.line task.log) line
told_written settings task line has =
    ap (λ notes. wrote_by task.lines notes line) (own_notes settings task.lines task.log has)
