-- Event logs: the entries of a driver, from an opening on.
use Rattle.std.specs.Prelude.{◌≡◌, ◌↔◌, ◌+◌, ℕ, zero, suc, Bool, IsTrue, List, [], ◌∷◌, ◌++◌, length}
use Rattle.guest_image.specs.ImageValue.{ImageValue}
use Rattle.watch_counts.specs.spec_state.View.{View}
use Rattle.watch_counts.specs.event_def.Book.{BookView}
use Rattle.watch_counts.specs.step_script.declared.act.Act.{Act}
use Rattle.watch_counts.specs.step_script.Playing.{PlayState}
use Rattle.watch_counts.specs.watch_text.Moments.{IsMoment, Moment}
use Rattle.watch_play.specs.Courses.{Course, HasNext, IsAskedBy, LeastWaits, Stage, first_stage, next_stage}

-- a book before its first act, for which no leg is held
abbrev pub begun : BookView → PlayState
begun opening = record { book = opening; held = [] }

-- the act of this number, counted from 0, comes at this stage: it isn't asked for, and passes; or it is, and is a
-- moment more
pub data ActComes {N : Type 0} (image : ImageValue) (course : Course) (number : ℕ) (stage : Stage)
    (front : List (Moment N)) (old : PlayState) (moments : List (Moment N)) (new : PlayState) : Type 0 where
  Passes : (act : Act) → HasNext course stage old.book.view act → (IsAskedBy course old.book.view act → ⊥)
      → moments ≡ front → new ≡ old → ActComes image course number stage front old moments new
  Makes : (m : Moment N) → HasNext course stage old.book.view m.act → IsAskedBy course old.book.view m.act
      → m.at ≡ number + 1 → m.number ≡ length front + 1 → IsMoment image m old new → moments ≡ front ++ m ∷ []
      → ActComes image course number stage front old moments new

-- how many tasks have committed
abbrev pub commits_of : PlayState → ℕ
commits_of play = length play.book.view.history

-- the stage behind an act that led from a stage to this machine
pub record NextStage (course : Course) (at : Stage) (view : View) (stage : Stage) : Type 0 where
  pub waits : Bool
  pub waits_is : IsTrue waits ↔ LeastWaits view
  pub stage_is : stage ≡ next_stage course at (length view.history) waits

-- the driver's first `number` acts, from an opening on, gave these log entries, and led to this play and stage
abbrev pub StoryLeads : {N : Type 0} → ImageValue → Course → BookView → ℕ → Stage → List (Moment N) → PlayState → Type 0
StoryLeads image course opening zero stage moments new =
    (moments ≡ []) × (new ≡ begun opening) × (stage ≡ first_stage course (length opening.view.history))
StoryLeads {N} image course opening (suc number) stage moments new =
    (front : List (Moment N)) × (old : PlayState) × (at : Stage)
    × StoryLeads image course opening number at front old × ActComes image course number at front old moments new
    × NextStage course at new.book.view stage
