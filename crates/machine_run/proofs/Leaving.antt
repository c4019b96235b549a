-- What a closed book leaves is a run of the serial machine, whose end is how the book stands.
use Rattle.std.proofs.Common.{ℕ, ◌≡◌, ◌≤◌, ◌∙◌, sym, ap, subst, length, true, Option, Some, None}
use Rattle.std.specs.Prelude.{IfSome}
use Rattle.guest_image.specs.ImageValue.{ImageValue, IsImage}
use Rattle.run_journal.specs.declared.closed.Closed.{Closed}
use Rattle.run_journal.specs.declared.end.End.{End}
use Rattle.outcome_law.proofs.Below.run_law.Proved.{run_sized}
use Rattle.outcome_law.specs.serial_machine.Run.{IsEnd, IsRun}
use Rattle.outcome_law.specs.serial_machine.WholeRun.{IsRunOf}
use Rattle.outcome_law.specs.spec_state.View.{View}
use Rattle.outcome_law.specs.spec_state.Aborts.{IsUndone}
use Rattle.outcome_law.specs.spec_law.Sound.{Sound}
use Rattle.outcome_law.proofs.Below.spec_law.Proved.{undo_all_is_serial}
use Rattle.outcome_law.specs.event_def.Book.{BookView}
use Rattle.outcome_law.specs.event_def.Closing.{Closes}
use Rattle.machine_run.specs.Halted.{IsLeftOf}
use Rattle.machine_run.specs.Leaving.{LeavesRun}
use Rattle.machine_run.specs.Least.{run_of_closed}
use Rattle.machine_run.specs.Played.{StandsAt}
use Rattle.machine_run.proofs.Standing.{stands_serially}

module _ (last : BookView) (closed : Closed) (closes : Closes last closed) where
  -- the journal that is left is the book's journal
  pub journal_left : closed.journal ≡ last.view.history
  journal_left = closes.journal ∙ ap (λ (v : View). v.history) closes.undone.frame

  -- the output is the book's
  pub output_left : closed.output ≡ last.view.output
  output_left = closes.output ∙ ap (λ (v : View). v.output) closes.undone.frame

  -- the memory is the book's where all uncommitted tasks are taken back
  memory_left : IsUndone last.view (λ id. true) closed.memory
  memory_left = subst (IsUndone last.view (λ id. true)) (sym closes.memory) closes.undone.memory

  -- and the count of events is the book's, whatever end is told
  pub run_left : (end : Option End) → LeavesRun last closed.steps (run_of_closed closed end)
  run_left end =
      record { journal_is = journal_left; output_is = output_left; memory_is = memory_left; events_are = closes.steps }

if-some : {A : Type 0} (P Q : A → Type 0) (o : Option A) → ((a : A) → P a → Q a) → IfSome o P → IfSome o Q
if-some P Q None f h = tt
if-some P Q (Some a) f h = f a h

-- what a sound book leaves once it is closed is a run of the serial machine, with the limit and the budget of its settings, whose end is how
-- the book stands
pub left_is_run : (image : ImageValue) (last : BookView) (closed : Closed) (end : Option End) → IsImage image
    → Sound image last.view → Closes last closed
    → IfSome end (StandsAt last.view)
    → IsRunOf image last.view.settings.commits last.view.settings.budget (run_of_closed closed end)
left_is_run image last closed end within sound closes stands =
    let commits = last.view.settings.commits in
    let budget = last.view.settings.budget in
    let same = sym (journal_left last closed closes) in
    record {
      state = sound.serial;
      is_run = subst (λ j. IsRun image budget j sound.serial) same sound.is_run;
      within = subst (λ j. length j ≤ commits) same sound.tasks.few;
      memory_is = closes.memory ∙ (undo_all_is_serial image last.view closes.left sound closes.undone).0;
      output_is = output_left last closed closes ∙ sound.tasks.output;
      end_is = if-some (StandsAt last.view) (IsEnd image budget commits closed.journal sound.serial) end
          (λ e at. subst (λ j. IsEnd image budget commits j sound.serial e) same (stands_serially image last.view e within sound at)) stands;
    }

-- with a memory that is as long as the image's data
pub left_is_sized : (image : ImageValue) (closed : Closed) (end : Option End) (commits budget : ℕ) → IsImage image
    → IsRunOf image commits budget (run_of_closed closed end) → length closed.memory ≡ image.data_size
left_is_sized image closed end commits budget within run =
    ap length run.memory_is ∙ run_sized image budget closed.journal run.state within run.is_run

-- so too with a limit and a budget that are those of its settings
pub left_is_run_of : (image : ImageValue) (commits budget : ℕ) (last : BookView) (closed : Closed) (end : Option End)
    → IsImage image → Sound image last.view
    → Closes last closed → IfSome end (StandsAt last.view) → last.view.settings.commits ≡ commits
    → last.view.settings.budget ≡ budget
    → IsRunOf image commits budget (run_of_closed closed end)
left_is_run_of image commits budget last closed end within sound closes stands same_commits same_budget =
    let run = run_of_closed closed end in
    subst (λ c. IsRunOf image c budget run) same_commits
    (subst (λ b. IsRunOf image last.view.settings.commits b run) same_budget (left_is_run image last closed end within sound closes stands))

-- and both make it what is left of a run
pub left_of : (image : ImageValue) (commits budget : ℕ) (last : BookView) (closed : Closed) (end : Option End)
    → IsImage image → Sound image last.view → Closes last closed → IfSome end (StandsAt last.view)
    → last.view.settings.commits ≡ commits → last.view.settings.budget ≡ budget
    → IsLeftOf image commits budget (record { closed = closed; end = end })
left_of image commits budget last closed end within sound closes stands same_commits same_budget =
    let run : IsRunOf image commits budget (run_of_closed closed end) =
    left_is_run_of image commits budget last closed end within sound closes stands same_commits same_budget in
    record { run = run; writable = left_is_sized image closed end commits budget within run }
