-- What a frozen book leaves is a run with its pending tasks.
use Rattle.std.proofs.Common.{◌≡◌, ◌≤◌, ◌∙◌, sym, ap, subst, List, length, arith}
use Rattle.std.specs.Prelude.{IsPermutation}
use Rattle.std.specs.List.Sorted.{IsSortedBy}
use Rattle.guest_image.specs.ImageValue.{ImageValue}
use Rattle.run_journal.specs.declared.closed.Closed.{Closed}
use Rattle.run_journal.specs.declared.journal.Entry.{Entry}
use Rattle.event_step.specs.serial_machine.declared.limits.TheConstants.{MAX_COMMITS}
use Rattle.event_step.specs.serial_machine.Run.{IsRun}
use Rattle.event_step.specs.spec_state.declared.pending.Pending.{Pending}
use Rattle.event_step.specs.spec_state.View.{View}
use Rattle.event_step.specs.spec_state.Pendings.{pending_before, pendings_in, RunLeaves}
use Rattle.event_step.specs.spec_law.Sound.{Sound}
use Rattle.event_step.proofs.Below.spec_law.Proved.{undo_all_is_serial}
use Rattle.event_step.specs.event_def.Book.{BookView}
use Rattle.event_step.specs.event_def.Closing.{Closes}
use Rattle.pending_law.proofs.Proved.{pendings_are_serial}

-- what is closed has the book's journal for its own
journal_kept : (book : BookView) (closed : Closed) → Closes book closed → closed.journal ≡ book.view.history
journal_kept book closed closes = closes.journal ∙ ap (λ (v : View). v.history) closes.undone.frame

-- a sound book that is closed leaves a run, and its pending tasks are those of the serial machine after that run
pub frozen_leaves : (image : ImageValue) (book : BookView) (closed : Closed) (pendings : List Pending)
    → Sound image book.view → Closes book closed
    → IsPermutation (pendings_in book.view) pendings → IsSortedBy pending_before pendings
    → RunLeaves image book.view.settings.budget closed.journal closed.memory closed.output pendings
frozen_leaves image book closed pendings sound closes moved sorted =
    let same = journal_kept book closed closes in
    let undone = undo_all_is_serial image book.view closes.left sound closes.undone in
    record {
      state = sound.serial;
      run = subst (λ j. IsRun image book.view.settings.budget j sound.serial) (sym same) sound.is_run;
      memory_is = closes.memory ∙ undone.0;
      output_is = closes.output ∙ undone.1;
      pending = pendings_are_serial image book.view sound pendings moved sorted;
    }

-- and its journal is no longer than a run may be
pub frozen_fits : (image : ImageValue) (book : BookView) (closed : Closed) → Sound image book.view → Closes book closed
    → length closed.journal ≤ MAX_COMMITS
frozen_fits image book closed sound closes =
    let same : length closed.journal ≡ length book.view.history = ap (λ (es : List Entry). length es) (journal_kept book closed closes) in
    let few = sound.tasks.few in
    let most = sound.sizes.settings.commits.1 in
    omega (arith, same, few, most)
