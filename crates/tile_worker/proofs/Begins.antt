-- A run that goes on begins with what it had come to.
use Rattle.std.proofs.Common.{◌≡◌, ◌++◌, ◌∙◌, ℕ, List, length, take, drop, min, sym, ap, subst, ◌≤◌, le_refl}
use Rattle.std.proofs.Math.Nat.{min-le_right}
use Rattle.std.proofs.lemmas.List.{length-take, take-append-le, take-append-drop, take_all}
use Rattle.run_journal.specs.declared.journal.Entry.{Entry}
use Rattle.conflict_book.specs.spec_state.View.{View}
use Rattle.conflict_book.specs.event_def.Book.{BookView}
use Rattle.tile_worker.specs.Grows.{Grows}
use Rattle.tile_worker.specs.Holds.{HoldsOnce}
use Rattle.tile_worker.proofs.Holding.{holds_grow}

-- what a list begins with, a longer one begins with too
begins_longer : {A : Type 0} (before xs more : List A) → take (length before) xs ≡ before
    → take (length before) (xs ++ more) ≡ before
begins_longer before xs more front =
    let size : min (length before) (length xs) ≡ length before = sym (length-take (length before) xs) ∙ ap length front in
    let within : length before ≤ length xs = subst (λ n. n ≤ length xs) size (min-le_right (length before) (length xs)) in
    take-append-le (length before) xs more within ∙ front

-- so a journal, and an output, that go on
pub entries_grow : (old new : View) (before : List Entry) → Grows old new → take (length before) old.history ≡ before
    → take (length before) new.history ≡ before
entries_grow old new before grows front =
    subst (λ xs. take (length before) xs ≡ before) (sym grows.history) (begins_longer before old.history grows.entries front)

pub bytes_grow : (old new : View) (before : List ℕ) → Grows old new → take (length before) old.output ≡ before
    → take (length before) new.output ≡ before
bytes_grow old new before grows front =
    subst (λ xs. take (length before) xs ≡ before) (sym grows.output) (begins_longer before old.output grows.bytes front)

-- both after a hold
pub entries_held : (N : Type 0) (old new : BookView) (before : List Entry) → HoldsOnce N old new
    → take (length before) old.view.history ≡ before
    → take (length before) new.view.history ≡ before
entries_held N old new before once front = entries_grow old.view new.view before (holds_grow N old new once) front

pub bytes_held : (N : Type 0) (old new : BookView) (before : List ℕ) → HoldsOnce N old new
    → take (length before) old.view.output ≡ before
    → take (length before) new.view.output ≡ before
bytes_held N old new before once front = bytes_grow old.view new.view before (holds_grow N old new once) front

-- what begins with all of an older one goes on from it
pub begins_grow : (old new : View) → take (length old.history) new.history ≡ old.history
    → take (length old.output) new.output ≡ old.output
    → Grows old new
begins_grow old new entries bytes =
    record {
      entries = drop (length old.history) new.history;
      history =
          sym (take-append-drop (length old.history) new.history)
          ∙ ap (λ xs. xs ++ drop (length old.history) new.history) entries;
      bytes = drop (length old.output) new.output;
      output =
          sym (take-append-drop (length old.output) new.output)
          ∙ ap (λ xs. xs ++ drop (length old.output) new.output) bytes;
    }

-- all of a list begins with it
pub begins_with_all : {A : Type 0} (before xs : List A) → xs ≡ before → take (length before) xs ≡ before
begins_with_all before xs same =
    subst (λ ys. take (length before) ys ≡ before) (sym same) (take_all (length before) before (le_refl _))

-- so a book that begins with what an older one had come to goes on from it
pub goes_on_from : (old mid new : BookView) (history : List Entry) (output : List ℕ) → old.view.history ≡ history
    → old.view.output ≡ output
    → take (length history) mid.view.history ≡ history → take (length output) mid.view.output ≡ output → new ≡ mid
    → Grows old.view new.view
goes_on_from old mid new history output was_history was_output entries bytes same =
    let all : take (length old.view.history) mid.view.history ≡ old.view.history =
    subst (λ xs. take (length xs) mid.view.history ≡ xs) (sym was_history) entries in
    let both : take (length old.view.output) mid.view.output ≡ old.view.output =
    subst (λ xs. take (length xs) mid.view.output ≡ xs) (sym was_output) bytes in
    subst (λ (b : BookView). Grows old.view b.view) (sym same) (begins_grow old.view mid.view all both)
