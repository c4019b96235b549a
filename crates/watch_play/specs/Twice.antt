-- Two event logs of one driver, from two openings of one image, are the same but for the ids of tasks.
use Rattle.std.specs.Prelude.{◌≡◌, ℕ, List}
use Rattle.std.specs.List.{AllZip}
use Rattle.guest_image.specs.ImageValue.{ImageValue, IsImage}
use Rattle.place_policy.specs.Policy.{Policy}
use Rattle.trace_tap.specs.TapValue.{TapValue}
use Rattle.watch_counts.specs.spec_state.declared.settings.Settings.{Settings}
use Rattle.watch_counts.specs.spec_state.Settings.{IsValid}
use Rattle.watch_counts.specs.event_def.Book.{BookView}
use Rattle.watch_counts.specs.event_def.Opening.{IsOpening}
use Rattle.watch_counts.specs.step_script.Playing.{PlayState}
use Rattle.machine_run.specs.outcome_law.Laws.{AreSameBooks}
use Rattle.watch_counts.specs.watch_text.Moments.{Moment}
use Rattle.watch_play.specs.Courses.{Course, EndsAt, Stage}
use Rattle.watch_play.specs.Leaving.{IsWithin}
use Rattle.watch_play.specs.Stories.{StoryLeads}

-- two log entries agree: they have the same act, number and reply, as many tasks were aborted, and their books before
-- and after are the same but for ids. About what else the event did (its effect) this claims nothing
pub record TellOneThing {N : Type 0} (m other : Moment N) : Type 0 where
  pub at_is : other.at ≡ m.at
  pub number_is : other.number ≡ m.number
  pub act_is : other.act ≡ m.act
  pub reply_is : other.reply ≡ m.reply
  pub aborted_is : other.aborted ≡ m.aborted
  pub old : AreSameBooks m.old other.old
  pub new : AreSameBooks m.new other.new

-- so two event logs agree, entry by entry, as far as the driver's first `count` acts lead, and leave books that are the
-- same but for ids
abbrev pub StoryIsOne : Type 0 → Type 0
StoryIsOne N =
    (image : ImageValue) (course : Course) (settings : Settings) (placers : List Policy) (taps : List TapValue)
    (opening other_opening : BookView) (count : ℕ) (stage other_stage : Stage) (moments others : List (Moment N))
    (last other_last : PlayState)
    → IsImage image → IsValid settings → IsWithin course settings
    → IsOpening image settings placers taps opening → IsOpening image settings placers taps other_opening
    → StoryLeads image course opening count stage moments last
    → StoryLeads image course other_opening count other_stage others other_last
    → (other_stage ≡ stage) × AllZip TellOneThing moments others × AreSameBooks last.book other_last.book

-- and a driver from an opening ends after one number of acts, no other
abbrev pub EndIsOne : Type 0 → Type 0
EndIsOne N =
    (image : ImageValue) (course : Course) (settings : Settings) (placers : List Policy) (taps : List TapValue)
    (opening : BookView) (count other : ℕ) (stage other_stage : Stage) (moments others : List (Moment N))
    (last other_last : PlayState)
    → IsImage image → IsValid settings → IsWithin course settings → IsOpening image settings placers taps opening
    → StoryLeads image course opening count stage moments last → EndsAt course stage last.book.view
    → StoryLeads image course opening other other_stage others other_last
    → EndsAt course other_stage other_last.book.view → other ≡ count
