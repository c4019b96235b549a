-- That rounds in lockstep do what a script of their acts does.
use Rattle.std.specs.Prelude.{◌≡◌, ℕ, false, List, map}
use Rattle.guest_image.specs.ImageValue.{ImageValue}
use Rattle.watch_counts.specs.spec_law.Sound.{Sound}
use Rattle.watch_counts.specs.event_def.Book.{BookView}
use Rattle.watch_counts.specs.step_script.Playing.{PlayState, Plays}
use Rattle.watch_counts.specs.watch_text.Moments.{Moment}
use Rattle.watch_play.specs.Courses.{OfRounds, Stage}
use Rattle.watch_play.specs.Replies.{said_by}
use Rattle.watch_play.specs.Stories.{StoryLeads}

-- a story in rounds on the machine of an opening that is sound and wasn't stopped
pub record IsLockstep {N : Type 0} (image : ImageValue) (rounds seed most : ℕ) (opening : BookView) (count : ℕ)
    (stage : Stage) (moments : List (Moment N)) (last : PlayState) : Type 0 where
  pub sound : Sound image opening.view
  pub going : opening.stopped ≡ false
  pub leads : StoryLeads image (OfRounds rounds seed most opening.view.settings) opening count stage moments last

-- the acts that the log of a run in rounds lists, in their order, are a script that is played so
abbrev pub LockstepPlays : Type 0 → Type 0
LockstepPlays N =
    (image : ImageValue) (rounds seed most : ℕ) (opening : BookView) (count : ℕ) (stage : Stage)
    (moments : List (Moment N)) (last : PlayState)
    → IsLockstep image rounds seed most opening count stage moments last
    → Plays N image (map (λ (m : Moment N). m.act) moments) opening (map said_by moments) last.book
