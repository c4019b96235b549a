-- A run by the events for the least tasks.
use Rattle.std.specs.Prelude.{◌≡◌, ◌+◌, ◌*◌, ◌<◌, ◌≤◌, ℕ, List, length}
use Rattle.guest_image.specs.ImageValue.{ImageValue}
use Rattle.place_policy.specs.Policy.{Policy}
use Rattle.event_step.specs.spec_state.Effects.{EffectValue}
use Rattle.event_step.specs.spec_state.View.{View}
use Rattle.trace_tap.specs.declared.record.Deed.{Deed}
use Rattle.trace_tap.specs.declared.record.Deed.TheVariants as deed
use Rattle.trace_tap.specs.declared.record.Record.{Record}
use Rattle.event_step.specs.event_def.declared.event.Advance.{Advance}
use Rattle.event_step.specs.event_def.declared.event.Advance.TheVariants as answers
use Rattle.event_step.specs.event_def.declared.event.Came.{Came}
use Rattle.event_step.specs.event_def.declared.event.Event.{Event}
use Rattle.event_step.specs.event_def.declared.event.Halt.{Halt}
use Rattle.event_step.specs.event_def.declared.event.Halt.TheVariants as halts
use Rattle.event_step.specs.event_def.Advancing.{AdvanceAnswers, AdvancesBy, HasRest, IsNextEvent}
use Rattle.event_step.specs.event_def.Book.{BookView}
use Rattle.event_step.specs.event_def.Telling.{ComesTelling}

-- the outcome of the event for the least task, and what it reports
abbrev pub NextComes : Type 0 → ImageValue → BookView → Came → View → List Policy → EffectValue → Type 0
NextComes N image book came new placers effect =
    (event : Event N) × IsNextEvent image book.view event × ComesTelling book event came new placers effect

-- where an event other than a commit was made, less is left up to the next commit or the end
abbrev pub FallsIfMoved : Advance → View → View → Type 0
FallsIfMoved (answers.Moved aborted) old new = (before after : ℕ) → HasRest old before → HasRest new after
    → after < before
FallsIfMoved other old new = Unit {0}

-- what an advance answers of an event that was made, by its deed and how many tasks it aborted
abbrev pub advance_by : Deed → ℕ → Advance
advance_by deed.Commit aborted = answers.Committed
advance_by other aborted = answers.Moved aborted

abbrev pub advance_of : Record → Advance
advance_of seen = advance_by seen.deed seen.aborted

-- a run goes on after an event that was made
abbrev pub AdvanceGoesOn : Advance → Type 0
AdvanceGoesOn (answers.Moved aborted) = Unit {0}
AdvanceGoesOn answers.Committed = Unit {0}
AdvanceGoesOn other = ⊥

-- the reply at which a run halted
abbrev pub last_answer : Halt → Advance
last_answer (halts.Ended end) = answers.Ended end
last_answer halts.Memory = answers.Memory

-- `made` events for the least tasks were made, and then the run halted; with the commits among them they are at most
-- the budget and 4 for each commit and one more
pub record RunsLeast (N : Type 0) (image : ImageValue) (old : BookView) (halt : Halt) (new : BookView) : Type 0 where
  pub made : ℕ
  pub advances : AdvancesBy N image made old new
  pub halts : AdvanceAnswers N image new (last_answer halt) new
  pub commits : ℕ
  pub longer : length new.view.history ≡ length old.view.history + commits
  pub few : made ≤ (commits + 1) * (old.view.settings.budget + 4)
