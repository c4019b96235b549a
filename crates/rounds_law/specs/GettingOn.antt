-- That rounds in lockstep make progress.
use Rattle.std.specs.Prelude.{◌≡◌, ◌==◌, ◌+◌, ◌*◌, ◌≤◌, ℕ, zero, suc, Bool, not, false, List, length, if◌then◌else◌}
use Rattle.guest_image.specs.ImageValue.{ImageValue}
use Rattle.watch_counts.specs.spec_law.Sound.{Sound}
use Rattle.watch_counts.specs.spec_state.declared.settings.Settings.{Settings}
use Rattle.watch_counts.specs.event_def.Advancing.{HasRest}
use Rattle.watch_counts.specs.event_def.Book.{BookView}
use Rattle.watch_counts.specs.event_def.End.{IsOver}
use Rattle.watch_counts.specs.step_script.declared.act.Act.TheVariants as acts
use Rattle.watch_counts.specs.step_script.Playing.{PlayState}
use Rattle.watch_counts.specs.watch_text.Moments.{IsMoment, Moment}
use Rattle.watch_play.specs.Courses.{Course, OfRounds, Stage, is_starved}
use Rattle.watch_play.specs.Lockstep.{IsLockstep}
use Rattle.watch_play.specs.Stories.{StoryLeads, commits_of}

-- `n` log entries in a row advanced the least task, while the run went on, and none of them committed
pub data IsBroughtOn (N : Type 0) (image : ImageValue) (first : PlayState) : ℕ → PlayState → Type 0 where
  not_yet : IsBroughtOn N image first 0 first
  once_more : (n : ℕ) (mid new : PlayState) (m : Moment N) → IsBroughtOn N image first n mid
      → (IsOver mid.book.view → ⊥) → IsMoment image m mid new → m.act ≡ acts.Advance
      → commits_of new ≡ commits_of first → IsBroughtOn N image first (n + 1) new

-- from a sound book, whatever queues are full, they are no more than the budget and 4, with what is left of the way to
-- the next commit or the end
abbrev pub ForcedGetsOn : Type 0 → Type 0
ForcedGetsOn N =
    (image : ImageValue) (first last : PlayState) (count left : ℕ) → Sound image first.book.view
    → first.book.stopped ≡ false → IsBroughtOn N image first count last → HasRest last.book.view left
    → count + left ≤ first.book.view.settings.budget + 4

-- the act led from a stage to the next one by ending its round
abbrev pub ends_round : (at stage : Stage) → Bool
ends_round at stage = not (stage.round == at.round)

-- how many rounds in a row ended so at last that none committed a task in it and the least task waited then; so it did
-- for all of them, and no task has committed since the first of them began
abbrev pub waited : {N : Type 0} (image : ImageValue) (course : Course) (opening : BookView) (count : ℕ) (stage : Stage)
    (moments : List (Moment N)) (last : PlayState) → StoryLeads image course opening count stage moments last → ℕ
waited image course opening zero stage moments last leads = 0
waited image course opening (suc n) stage moments last leads =
    if ends_round leads.2 stage
    then (if is_starved leads.2 (commits_of last) leads.5.waits
    then waited image course opening n leads.2 leads.0 leads.1 leads.3 + 1 else 0)
    else waited image course opening n leads.2 leads.0 leads.1 leads.3

-- no more than so many rounds in a row do: of each M + 1 rounds one commits a task, or ends with the least task
-- dispatched, or with the run
abbrev pub RoundsDispatch : Type 0 → Type 0
RoundsDispatch N =
    (image : ImageValue) (rounds seed most : ℕ) (settings : Settings) (opening : BookView) (count : ℕ) (stage : Stage)
    (moments : List (Moment N)) (last : PlayState)
    (leads : StoryLeads image (OfRounds rounds seed most settings) opening count stage moments last) → 1 ≤ most
    → waited image (OfRounds rounds seed most settings) opening count stage moments last leads ≤ most

-- no more rounds end than this for each commit and as many again: M starved rounds, the one that advances the least
-- task, and as many as it needs then. So from a sound book such a stretch brings a commit or the end of the run
abbrev pub RoundsGetOn : Type 0 → Type 0
RoundsGetOn N =
    (image : ImageValue) (rounds seed most : ℕ) (opening : BookView) (count : ℕ) (stage : Stage)
    (moments : List (Moment N)) (last : PlayState)
    → IsLockstep image rounds seed most opening count stage moments last → 1 ≤ most
    → (let span = most + opening.view.settings.budget + 3 in
    stage.round + span * length opening.view.history ≤ span * (length last.book.view.history + 1))
