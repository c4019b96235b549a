-- What a story leaves: a sound book, and of the course of the least task the run that its events make.
use Rattle.std.specs.Prelude.{◌≡◌, ℕ, All, IfSome, List, false, length}
use Rattle.guest_image.specs.ImageValue.{ImageValue, IsImage}
use Rattle.place_policy.specs.Policy.{Policy}
use Rattle.trace_tap.specs.TapValue.{TapValue}
use Rattle.watch_counts.specs.serial_machine.declared.whole_run.SerialRun.{SerialRun}
use Rattle.watch_counts.specs.spec_state.declared.settings.Settings.{Settings}
use Rattle.watch_counts.specs.spec_state.Settings.{IsValid}
use Rattle.watch_counts.specs.spec_law.Sound.{Sound}
use Rattle.watch_counts.specs.event_def.Advancing.{AdvancesBy}
use Rattle.watch_counts.specs.event_def.Book.{BookView}
use Rattle.watch_counts.specs.event_def.End.{HasEnd}
use Rattle.watch_counts.specs.event_def.Opening.{IsOpening}
use Rattle.watch_counts.specs.step_script.Playing.{PlayState}
use Rattle.watch_counts.specs.step_script.Ranges.{ActIsInRange}
use Rattle.machine_run.specs.Least.{IsLeastRun}
use Rattle.machine_run.specs.Leaving.{LeavesRun}
use Rattle.watch_counts.specs.watch_text.Moments.{Moment}
use Rattle.watch_play.specs.Courses.{Course, OfLeast, OfRounds, OfScript, Stage}
use Rattle.watch_play.specs.Stories.{StoryLeads}

-- the acts of a driver are within these settings: those of a script are, and rounds are of a machine like this
abbrev pub IsWithin : Course → Settings → Type 0
IsWithin (OfScript script) settings = All (ActIsInRange settings.tiles settings.cores) script
IsWithin OfLeast settings = Unit {0}
IsWithin (OfRounds rounds seed most own) settings = own ≡ settings

-- a book is sound, wasn't stopped, and has these settings
pub record IsSoundBook (image : ImageValue) (settings : Settings) (book : BookView) : Type 0 where
  pub sound : Sound image book.view
  pub going : book.stopped ≡ false
  pub settings_are : book.view.settings ≡ settings

-- so an event log, however long, leaves a sound book, if it began with one
abbrev pub StoryStaysSound : Type 0 → Type 0
StoryStaysSound N =
    (image : ImageValue) (course : Course) (settings : Settings) (opening : BookView) (count : ℕ) (stage : Stage)
    (moments : List (Moment N)) (last : PlayState)
    → IsSoundBook image settings opening → IsWithin course settings
    → StoryLeads image course opening count stage moments last → IsSoundBook image settings last.book

-- each moment of the course of the least task is one event for the least task
abbrev pub LeastStoryAdvances : Type 0 → Type 0
LeastStoryAdvances N =
    (image : ImageValue) (opening : BookView) (count : ℕ) (stage : Stage) (moments : List (Moment N)) (last : PlayState)
    → Sound image opening.view → opening.stopped ≡ false → StoryLeads image OfLeast opening count stage moments last
    → AdvancesBy N image (length moments) opening last.book

-- so what this driver leaves of an opening is what the least tasks' events do, by as many of them as its log has
-- entries
abbrev pub LeastStoryIsRun : Type 0 → Type 0
LeastStoryIsRun N =
    (image : ImageValue) (settings : Settings) (placers : List Policy) (taps : List TapValue) (opening : BookView)
    (count : ℕ) (stage : Stage) (moments : List (Moment N)) (last : PlayState) (run : SerialRun)
    → IsImage image → IsValid settings → IsOpening image settings placers taps opening
    → StoryLeads image OfLeast opening count stage moments last → LeavesRun last.book (length moments) run
    → IfSome run.end (HasEnd last.book.view)
    → IsLeastRun N image settings placers taps (length moments) run
