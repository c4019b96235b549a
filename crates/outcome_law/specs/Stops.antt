-- Laws of plays that stop before the end of their script, as memory ran out.
use Rattle.std.specs.Prelude.{◌≡◌, ◌≤◌, ◌++◌, List, [], take, drop}
use Rattle.std.specs.List.{AllByRecursion}
use Rattle.guest_image.specs.ImageValue.{ImageValue, IsImage}
use Rattle.place_policy.specs.Policy.{Policy}
use Rattle.trace_tap.specs.TapValue.{TapValue}
use Rattle.step_script.specs.spec_state.declared.settings.Settings.{Settings}
use Rattle.step_script.specs.spec_state.Settings.{IsValid}
use Rattle.step_script.specs.spec_law.Sound.{Sound}
use Rattle.step_script.specs.event_def.Book.{BookView}
use Rattle.step_script.specs.event_def.Opening.{IsOpening}
use Rattle.step_script.specs.declared.act.Act.{Act}
use Rattle.step_script.specs.declared.saying.Said.{Said}
use Rattle.step_script.specs.Playing.{HeldLeg, PlayState, DoesAll, Plays, PlaysSome}
use Rattle.step_script.specs.Ranges.{ActIsInRange}
use Rattle.outcome_law.specs.Laws.{AreSameBooks}

-- a play of acts followed by others: these are the replies to the first ones, the book that they lead to is alike to
-- this one, and from there it plays the others
pub record PlaysOnBehind (N : Type 0) (image : ImageValue) (front behind : List Act) (said : List Said)
    (left : BookView)
    (old : BookView) (all_said : List Said) (new : BookView) : Type 0 where
  pub mid : PlayState
  pub plays : DoesAll N image front (record { book = old; held = [] }) said mid
  pub books : AreSameBooks left mid.book
  pub said_behind : List Said
  pub said_is : all_said ≡ said ++ said_behind
  pub held : List HeldLeg
  pub goes_on : DoesAll N image behind mid said_behind (record { book = new; held = held })

-- a play of some acts, and one of the same acts followed by others, on sound books that are alike: the second one plays
-- the first one's acts as the first does, and continues from there
abbrev pub FrontIsOne : Type 0 → Type 0
FrontIsOne N =
    (image : ImageValue) (front behind : List Act) (old other_old new other_new : BookView)
    (said other_said : List Said)
    → Sound image old.view → Sound image other_old.view → AreSameBooks old other_old
    → AllByRecursion (ActIsInRange old.view.settings.tiles old.view.settings.cores) front
    → Plays N image front old said new → Plays N image (front ++ behind) other_old other_said other_new
    → PlaysOnBehind N image front behind said new other_old other_said other_new

-- memory stopped one play of a script, from an opening on, and another play, from another opening on, reached the end:
-- the other plays the acts up to there as the first does, and continues from there
abbrev pub StopIsOne : Type 0 → Type 0
StopIsOne N =
    (image : ImageValue) (settings : Settings) (placers : List Policy) (taps : List TapValue) (script : List Act)
    (opened other_opened new other_new : BookView) (other_said : List Said)
    → IsImage image → IsValid settings
    → IsOpening image settings placers taps opened → IsOpening image settings placers taps other_opened
    → AllByRecursion (ActIsInRange opened.view.settings.tiles opened.view.settings.cores) script
    → (stopped : PlaysSome N image script opened new) → Plays N image script other_opened other_said other_new
    → PlaysOnBehind N image (take stopped.count script) (drop stopped.count script) stopped.said new
    other_opened other_said other_new

-- memory stopped two plays of a script, from two openings, the first one no later than the other: the other plays the
-- acts up to there as the first does, and continues from there
abbrev pub StopsAreOne : Type 0 → Type 0
StopsAreOne N =
    (image : ImageValue) (settings : Settings) (placers : List Policy) (taps : List TapValue) (script : List Act)
    (opened other_opened new other_new : BookView)
    → IsImage image → IsValid settings
    → IsOpening image settings placers taps opened → IsOpening image settings placers taps other_opened
    → AllByRecursion (ActIsInRange opened.view.settings.tiles opened.view.settings.cores) script
    → (stopped : PlaysSome N image script opened new) → (other : PlaysSome N image script other_opened other_new)
    → stopped.count ≤ other.count
    → PlaysOnBehind N image (take stopped.count script) (drop stopped.count (take other.count script)) stopped.said new
    other_opened other.said other_new
