-- Whether the least task of a sound view waits, and so the stage behind an act.
use Rattle.std.proofs.Common.{◌≡◌, ℕ, Bool, true, false, length, inl, inr, refl, ap, ◌∙◌}
use Rattle.std.specs.Prelude.{◌↔◌, IsTrue}
use Rattle.guest_image.specs.ImageValue.{ImageValue}
use Rattle.watch_counts.specs.spec_state.declared.task.Status.TheVariants as status
use Rattle.watch_counts.specs.spec_state.declared.task.Task.{Task}
use Rattle.watch_counts.specs.spec_state.task_law.Advance.{Standing}
use Rattle.watch_counts.specs.spec_state.task_law.Advance as standing
use Rattle.watch_counts.specs.spec_state.Least.{IsLeastTask}
use Rattle.watch_counts.specs.spec_state.View.{View}
use Rattle.watch_counts.specs.spec_law.Sound.{Sound}
use Rattle.watch_counts.specs.event_def.Advancing.{StandsSo}
use Rattle.watch_counts.specs.event_def.End.{IsOver}
use Rattle.watch_counts.proofs.Below.event_law.Ends.{one_least}
use Rattle.watch_counts.proofs.Below.event_law.Falls.Rest.{not_both}
use Rattle.watch_counts.proofs.Below.event_law.Proved.{rest_is_there}
use Rattle.watch_counts.proofs.Below.spec_law.Proved.{least_is_one}
use Rattle.watch_play.specs.Courses.{Course, LeastWaits, Stage, next_stage}
use Rattle.watch_play.specs.Stories.{NextStage}

module _ (view : View) where
  -- a least task that isn't idle doesn't wait
  pub not_waiting : (id : ℕ) (task : Task) → IsLeastTask view id task → (task.status ≡ status.Idle → ⊥)
      → LeastWaits view → ⊥
  not_waiting id task least not (inl idle) =
      not (ap (λ (t : Task). t.status) (one_least view (least_is_one view) id idle.1 task idle.2 least idle.3)
      ∙ idle.4)
  not_waiting id task least not (inr spilled) = not_both view id spilled.1 task least spilled.2

  -- nor does one of a run that is over
  pub over_not_waiting : IsOver view → LeastWaits view → ⊥
  over_not_waiting over (inl idle) = idle.0 over
  over_not_waiting over (inr spilled) = spilled.0 over

  -- a test that fails, where the least task doesn't wait
  pub no_wait : (LeastWaits view → ⊥) → IsTrue false ↔ LeastWaits view
  no_wait none = (λ t. absurd (cc (t)), λ w. absurd (none w))

  pub waits_by : (stands : Standing) → StandsSo view stands → (b : Bool) × (IsTrue b ↔ LeastWaits view)
  waits_by standing.Over over = (false, no_wait (over_not_waiting over))
  waits_by standing.Finished so =
      (false, no_wait (not_waiting so.1 so.2 so.3 (λ is. absurd (cc (so.4, is)))))
  waits_by (standing.Running used) so =
      (false, no_wait (not_waiting so.1 so.2 so.4 (λ is. absurd (cc (so.5, is)))))
  waits_by standing.Idle so = (true, (λ t. inl so, λ w. refl))
  waits_by standing.Spilled so = (true, (λ t. inr so, λ w. refl))

pub waits_there : (image : ImageValue) (view : View) → Sound image view → (b : Bool) × (IsTrue b ↔ LeastWaits view)
waits_there image view sound =
    let rest = rest_is_there image view sound in waits_by view rest.1.stands rest.1.stands_so

pub stage_there : (image : ImageValue) (course : Course) (at : Stage) (view : View) → Sound image view
    → (stage : Stage) × NextStage course at view stage
stage_there image course at view sound =
    let waits = waits_there image view sound in (
      next_stage course at (length view.history) waits.0,
      record { waits = waits.0; waits_is = waits.1; stage_is = refl },
    )

-- by what it is, whether the least task waits or not
pub next_by : (image : ImageValue) (course : Course) (at : Stage) (view : View) (stage : Stage) → Sound image view
    → ((waits : Bool) → IsTrue waits ↔ LeastWaits view → stage ≡ next_stage course at (length view.history) waits)
    → NextStage course at view stage
next_by image course at view stage sound is =
    let waits = waits_there image view sound in
    record { waits = waits.0; waits_is = waits.1; stage_is = is waits.0 waits.1 }

-- two tests of one proposition are one
pub one_test : {P : Type 0} (a b : Bool) → IsTrue a ↔ P → IsTrue b ↔ P → a ≡ b
one_test true true one two = refl
one_test false false one two = refl
one_test true false one two = absurd (cc (two.1 (one.0 refl)))
one_test false true one two = absurd (cc (one.1 (two.0 refl)))
