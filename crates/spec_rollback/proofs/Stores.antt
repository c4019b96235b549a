-- Whether a filter tells a line to which a log has a store.
use Rattle.std.proofs.Common.{◌≡◌, ◌==◌, ◌&&◌, ◌||◌, ◌↔◌, ◌/◌, ℕ, Bool, true, List, [], ◌∷◌, is_some, refl, sym}
use Rattle.std.proofs.Common.{ap, ◌∙◌}
use Rattle.std.specs.List.{list_any}
use Rattle.std.proofs.lemmas.Bool.{and_from, and_parts, eq-eqb, eqb-true}
use Rattle.std.proofs.lemmas.List.Folds.{Any-from_list_any, list_any-from_Any}
use Rattle.line_table.specs.Note.{Note, Meet, wrote_in}
use Rattle.memory_law.specs.Notes.{notes_of}
use Rattle.undo_log.specs.declared.access.Access.{Access}
use Rattle.spec_state.specs.declared.task.Task.{Task}
use Rattle.spec_state.specs.Filters.{has_stored, has_touched}
use Rattle.spec_rollback.specs.Pulled.{tells_store}

-- some note of a store is of a line that passes exactly where some line was noted with a write and passes
module _ (test : ℕ → Bool) (notes : List Note) where
  some_noted : list_any (λ (note : Note). note.write && test note.line) notes ≡ true → Meet (wrote_in notes) test
  some_noted any =
      let one = Any-from_list_any (λ (note : Note). note.write && test note.line) notes any in
      let parts = and_parts one.1.write (test one.1.line) one.4 in (
        one.1.line,
        list_any-from_Any (λ note. note.write && note.line == one.1.line) notes (
          one.0,
          one.1,
          one.2,
          one.3,
          and_from one.1.write (one.1.line == one.1.line) parts.0 (eq-eqb one.1.line one.1.line refl),
        ),
        parts.1,
      )

  noted_some : Meet (wrote_in notes) test → list_any (λ (note : Note). note.write && test note.line) notes ≡ true
  noted_some meet =
      let one = Any-from_list_any (λ note. note.write && note.line == meet.0) notes meet.1 in
      let parts = and_parts one.1.write (one.1.line == meet.0) one.4 in
      list_any-from_Any (λ (note : Note). note.write && test note.line) notes (
        one.0,
        one.1,
        one.2,
        one.3,
        and_from one.1.write (test one.1.line) parts.0
            (ap test (eqb-true one.1.line meet.0 parts.1) ∙ meet.2),
      )

-- both ways
module _ (test : ℕ → Bool) (notes : List Note) where
  by_notes : (list_any (λ (note : Note). note.write && test note.line) notes ≡ true) ↔ Meet (wrote_in notes) test
  by_notes = (some_noted test notes, noted_some test notes)

-- the filter of the second task tells a store of the first exactly where some line has one and is told
pub tells_is : (size : ℕ) (writer reader : Task)
    → (tells_store size writer.log reader ≡ true) ↔ Meet (has_stored size writer) (has_touched reader)
tells_is size writer reader = by_notes (has_touched reader) (notes_of size writer.log)

-- the log itself is looked at
pub any_told : (size : ℕ) (reader : Task) (log : List Access)
    → tells_store size log reader
    ≡ list_any (λ (a : Access). is_some a.new && has_touched reader (a.offset / size)) log
any_told size reader [] = refl
any_told size reader (access ∷ log) =
    ap (λ b. (is_some access.new && has_touched reader (access.offset / size)) || b) (any_told size reader log)
