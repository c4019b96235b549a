-- Laws of views and books that are alike.
use Rattle.std.specs.Prelude.{◌≡◌, ◌≢◌, ℕ, List, All}
use Rattle.guest_image.specs.ImageValue.{ImageValue, IsImage}
use Rattle.step_script.specs.spec_state.Settings.{IsValid}
use Rattle.std.specs.List.{AllByRecursion}
use Rattle.run_journal.specs.declared.closed.Closed.{Closed}
use Rattle.run_journal.specs.declared.end.End.{End}
use Rattle.step_script.specs.event_def.Advancing.{AdvancesBy}
use Rattle.step_script.specs.event_def.Closing.{Closes}
use Rattle.step_script.specs.spec_state.View.{View}
use Rattle.place_policy.specs.Policy.{Policy}
use Rattle.trace_tap.specs.TapValue.{TapValue}
use Rattle.step_script.specs.spec_state.declared.settings.Settings.{Settings}
use Rattle.step_script.specs.event_def.Opening.{IsOpening}
use Rattle.step_script.specs.spec_law.Sound.{Sound}
use Rattle.step_script.specs.event_def.declared.event.Applied.{Applied}
use Rattle.step_script.specs.event_def.declared.event.Event.{Event}
use Rattle.step_script.specs.event_def.declared.event.Reply.{Reply}
use Rattle.step_script.specs.event_def.declared.event.Reply.TheVariants as replies
use Rattle.step_script.specs.event_def.Book.{BookView}
use Rattle.step_script.specs.event_def.End.{HasEnd}
use Rattle.step_script.specs.event_def.Events.{IsGiven}
use Rattle.step_script.specs.event_def.Happens.{Happens, HappenAll}
use Rattle.step_script.specs.declared.act.Act.{Act}
use Rattle.step_script.specs.declared.saying.Said.{Said}
use Rattle.step_script.specs.Playing.{Plays}
use Rattle.step_script.specs.Ranges.{ActIsInRange}
use Rattle.outcome_law.specs.Alike.{IdPermutation, AreAlike, AreAlikeBooks}

-- views that are alike have the same ends
abbrev pub EndIsAlike : Type 0
EndIsAlike = (r : IdPermutation) (a b : View) (end : End) → AreAlike r a b → HasEnd a end → HasEnd b end

-- the books are alike under some permutation
abbrev pub AreSameBooks : BookView → BookView → Type 0
AreSameBooks a b = (r : IdPermutation) × AreAlikeBooks r a b

-- one reply, as many aborted tasks, and books that are alike
pub record IsSameOutcome (reply other : Reply) (aborted other_aborted : ℕ) (new other_new : BookView) : Type 0 where
  pub reply_is : other ≡ reply
  pub aborted_is : other_aborted ≡ aborted
  pub books : AreSameBooks new other_new

-- the outcome of one event on sound books that are alike is unique, unless memory runs out
abbrev pub OutcomeIsOne : Type 0 → Type 0
OutcomeIsOne N =
    (image : ImageValue) (old other_old new other_new : BookView) (event : Event N) (reply other : Reply)
    (aborted other_aborted : ℕ)
    → Sound image old.view → Sound image other_old.view → AreSameBooks old other_old
    → Happens old event reply aborted new → Happens other_old event other other_aborted other_new
    → reply ≢ replies.Memory → other ≢ replies.Memory
    → IsSameOutcome reply other aborted other_aborted new other_new

-- memory did not run out
abbrev pub HasMemory : Applied → Type 0
HasMemory applied = applied.reply ≢ replies.Memory

-- equal events on sound books that are alike have the same answers and leave books that are alike, unless memory runs
-- out
abbrev pub EventsAreOne : Type 0 → Type 0
EventsAreOne N =
    (image : ImageValue) (old other_old new other_new : BookView) (events : List (Event N))
    (answers others : List Applied)
    → Sound image old.view → Sound image other_old.view → AreSameBooks old other_old
    → AllByRecursion (IsGiven image old.view.settings) events
    → AllByRecursion HasMemory answers → AllByRecursion HasMemory others
    → HappenAll old events answers new → HappenAll other_old events others other_new
    → (others ≡ answers) × AreSameBooks new other_new

-- so many events for the least tasks leave books that are alike
abbrev pub LeastRunIsOne : Type 0 → Type 0
LeastRunIsOne N =
    (image : ImageValue) (n : ℕ) (old other_old new other_new : BookView)
    → Sound image old.view → Sound image other_old.view → AreSameBooks old other_old
    → AdvancesBy N image n old new → AdvancesBy N image n other_old other_new
    → AreSameBooks new other_new

-- what closed books leave that are alike is the same
abbrev pub CloseIsOne : Type 0
CloseIsOne =
    (old other : BookView) (closed other_closed : Closed) → AreSameBooks old other
    → Closes old closed → Closes other other_closed → other_closed ≡ closed

-- the acts of a script that is played to its end on sound books that are alike have the same replies, and the books
-- that it leaves are alike
abbrev pub PlayIsOne : Type 0 → Type 0
PlayIsOne N =
    (image : ImageValue) (script : List Act) (old other_old new other_new : BookView) (said other_said : List Said)
    → Sound image old.view → Sound image other_old.view → AreSameBooks old other_old
    → AllByRecursion (ActIsInRange old.view.settings.tiles old.view.settings.cores) script
    → Plays N image script old said new → Plays N image script other_old other_said other_new
    → (other_said ≡ said) × AreSameBooks new other_new

-- two openings of an image with the same settings, placers and taps are alike
abbrev pub OpeningIsOne : Type 0
OpeningIsOne =
    (image : ImageValue) (settings : Settings) (placers : List Policy) (taps : List TapValue) (book other : BookView)
    → IsOpening image settings placers taps book → IsOpening image settings placers taps other
    → AreSameBooks book other

-- a script that is played to its end from the opening on has the same replies each time, and leaves the same journal,
-- memory, output, count of events and end, whatever ids the new tasks had
abbrev pub ScriptIsOne : Type 0 → Type 0
ScriptIsOne N =
    (image : ImageValue) (settings : Settings) (placers : List Policy) (taps : List TapValue) (script : List Act)
    (opened other_opened new other_new : BookView) (said other_said : List Said)
    → IsImage image → IsValid settings
    → IsOpening image settings placers taps opened → IsOpening image settings placers taps other_opened
    → AllByRecursion (ActIsInRange opened.view.settings.tiles opened.view.settings.cores) script
    → Plays N image script opened said new → Plays N image script other_opened other_said other_new
    → (other_said ≡ said)
    × ((closed other : Closed) → Closes new closed → Closes other_new other → other ≡ closed)
    × ((end : End) → HasEnd new.view end → HasEnd other_new.view end)
