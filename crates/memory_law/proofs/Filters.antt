-- A filter that leaves out no note of a log leaves out no access of it.
use Rattle.std.proofs.Common.{◌≡◌, ℕ, ◌/◌, Bool, true, List, [], ◌∷◌, ◌++◌, Option, Some, None, refl, ap, arith}
use Rattle.std.proofs.Common.{is_some}
use Rattle.std.proofs.lemmas.Bool.Decides.{nat_tests}
use Rattle.std.proofs.lemmas.List.Elements.{All-cons, All-head, All-nil, All-tail}
use Rattle.line_table.specs.Note.{Note, touched_in, wrote_in}
use Rattle.undo_log.specs.declared.access.Access.{Access}
use Rattle.undo_log.specs.Number.{IsAccessible}
use Rattle.undo_log.specs.Undo.{AllAccessible}
use Rattle.memory_law.specs.Tasks.{AreNotedInFilter, IsWroteIfStore}
use Rattle.memory_law.specs.Notes.{notes_of}

-- the answers name each line that the notes name
pub record NameAll (touched wrote : ℕ → Bool) (notes : List Note) : Type 0 where
  pub touched_too : (at : ℕ) → touched_in notes at ≡ true → touched at ≡ true
  pub wrote_too : (at : ℕ) → wrote_in notes at ≡ true → wrote at ≡ true

touched_first : (note : Note) (notes : List Note) → touched_in (note ∷ notes) note.line ≡ true
touched_first note notes = grind (arith, nat_tests)

touched_rest : (note : Note) (notes : List Note) (at : ℕ) → touched_in notes at ≡ true
    → touched_in (note ∷ notes) at ≡ true
touched_rest note notes at is = grind (arith, nat_tests)

wrote_first : (note : Note) (notes : List Note) → note.write ≡ true → wrote_in (note ∷ notes) note.line ≡ true
wrote_first note notes is = grind (arith, nat_tests)

wrote_rest : (note : Note) (notes : List Note) (at : ℕ) → wrote_in notes at ≡ true → wrote_in (note ∷ notes) at ≡ true
wrote_rest note notes at is = grind (arith, nat_tests)

-- what names all notes names all behind the first
rest_too : (touched wrote : ℕ → Bool) (note : Note) (notes : List Note) → NameAll touched wrote (note ∷ notes)
    → NameAll touched wrote notes
rest_too touched wrote note notes all =
    record {
      touched_too = λ at is. all.touched_too at (touched_rest note notes at is);
      wrote_too = λ at is. all.wrote_too at (wrote_rest note notes at is);
    }

pub noted_all : (size line : ℕ) (touched wrote : ℕ → Bool) (log : List Access) → AllAccessible size log
    → NameAll touched wrote (notes_of line log) → AreNotedInFilter size line touched wrote log
noted_all size line touched wrote [] within all = tt
noted_all size line touched wrote (access ∷ log) within all = (
  All-head (λ a. IsAccessible size a.offset a.width) access log within,
  all.touched_too (access.offset / line) (touched_first first (notes_of line log)),
  by_store access.new (λ is. all.wrote_too (access.offset / line) (wrote_first first (notes_of line log) is)),
  noted_all size line touched wrote log (All-tail (λ a. IsAccessible size a.offset a.width) access log within) (rest_too touched wrote first (notes_of line log) all),
)
  where
    first : Note
    first = record { line = access.offset / line; write = is_some access.new }

    by_store : (new : Option ℕ) → (is_some new ≡ true → wrote (access.offset / line) ≡ true)
        → IsWroteIfStore wrote (access.offset / line) new
    by_store None is = tt
    by_store (Some value) is = is refl

-- an access that joins a log adds its note
pub notes_of-append : (line : ℕ) (log more : List Access)
    → notes_of line (log ++ more) ≡ notes_of line log ++ notes_of line more
notes_of-append line [] more = refl
notes_of-append line (access ∷ log) more =
    ap (λ notes. record { line = access.offset / line; write = is_some access.new } ∷ notes) (notes_of-append line log more)

-- where a log is noted, each of its accesses lies aligned within the memory
pub noted_within : (size line : ℕ) (touched wrote : ℕ → Bool) (log : List Access)
    → AreNotedInFilter size line touched wrote log → AllAccessible size log
noted_within size line touched wrote [] noted = All-nil (λ access. IsAccessible size access.offset access.width)
noted_within size line touched wrote (access ∷ log) noted =
    All-cons (λ access. IsAccessible size access.offset access.width) access log noted.0
    (noted_within size line touched wrote log noted.3)

-- a log that is noted is noted in its own notes
pub noted_own : (size line : ℕ) (touched wrote : ℕ → Bool) (log : List Access)
    → AreNotedInFilter size line touched wrote log
    → AreNotedInFilter size line (touched_in (notes_of line log)) (wrote_in (notes_of line log)) log
noted_own size line touched wrote log noted =
    noted_all size line (touched_in (notes_of line log)) (wrote_in (notes_of line log)) log
    (noted_within size line touched wrote log noted)
    (record { touched_too = λ at is. is; wrote_too = λ at is. is })
