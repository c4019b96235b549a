-- The notes of a log, and filters that leave none out.
use Rattle.std.specs.Prelude.{ℕ, ◌/◌, Bool, List, [], ◌∷◌, is_some}
use Rattle.line_table.specs.Note.{Note}
use Rattle.undo_log.specs.declared.access.Access.{Access}
use Rattle.undo_log.specs.Undo.{AllAccessible}
use Rattle.memory_law.specs.Tasks.{AreNotedInFilter}

-- the line of each access of the log, and whether it is a store
abbrev pub notes_of : ℕ → List Access → List Note
notes_of line [] = []
notes_of line (access ∷ log) = record { line = access.offset / line; write = is_some access.new } ∷ notes_of line log

-- a filter whose notes are those of a log leaves out none of its accesses
abbrev pub LeavesNoneOut : {F : Type 0} → (F → List Note → Type 0) → (F → ℕ → Bool) → (F → ℕ → Bool) → Type 0
LeavesNoneOut {F} notes_are touched wrote =
    (filter : F) (size line : ℕ) (log : List Access)
    → AllAccessible size log → notes_are filter (notes_of line log)
    → AreNotedInFilter size line (touched filter) (wrote filter) log
