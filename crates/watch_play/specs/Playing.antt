-- The outcome of one act.
use Rattle.std.specs.Prelude.{◌≡◌, ◌+◌, ℕ, List, Result, Ok, Err, true}
use Rattle.guest_image.specs.ImageValue.{ImageValue}
use Rattle.watch_counts.specs.step_script.declared.act.Act.{Act}
use Rattle.watch_counts.specs.step_script.Playing.{PlayState}
use Rattle.watch_counts.specs.watch_text.Moments.{IsMoment, Moment}
use Rattle.watch_counts.specs.declared.counts.Counts.{Counts}
use Rattle.watch_counts.specs.Capped.{capped_counts}
use Rattle.watch_counts.specs.Counts.{counts_after}
use Rattle.watch_play.specs.Texts.{has_counts, moment_lines}
use Rattle.watch_play.specs.declared.playing.PlayedAct.{PlayedAct}
use Rattle.watch_play.specs.declared.playing.PlayedAct.TheVariants as came
use Rattle.watch_play.specs.declared.stop.StoryStop.{StoryStop}
use Rattle.watch_play.specs.declared.stop.StoryStop.TheVariants as stops
use Rattle.watch_play.specs.declared.telling.Telling.{Telling}
use Rattle.watch_play.specs.declared.watch.SoTold.{SoTold}

-- the act is this log entry: the `at`-th act of the driver, and the `number`-th that it asks for
pub record IsMomentAt {N : Type 0} (image : ImageValue) (at number : ℕ) (act : Act) (m : Moment N)
    (old new : PlayState) : Type 0 where
  pub act_is : m.act ≡ act
  pub at_is : m.at ≡ at
  pub number_is : m.number ≡ number
  pub moment : IsMoment image m old new

-- the act is a moment, and its line stands ready; or no memory is left for the line; or it is none, and the book stays
abbrev pub ComesToLine : Type 0 → ImageValue → Telling → (at number : ℕ) → Act → PlayState → PlayedAct → List ℕ
    → PlayState
    → Type 0
ComesToLine N image telling at number act old came.Told line new =
    (m : Moment N) × IsMomentAt image at number act m old new × (line ≡ moment_lines telling m)
ComesToLine N image telling at number act old came.Untold line new =
    (m : Moment N) × IsMomentAt image at number act m old new
ComesToLine N image telling at number act old came.Unmade line new = new.book ≡ old.book

-- where counts are printed, the code has those before and after a log entry
abbrev pub CountsMoment : {N : Type 0} → Telling → Moment N → (before after : Counts) → Type 0
CountsMoment telling m before after =
    has_counts telling ≡ true → (c : Counts) → before ≡ capped_counts c → after ≡ capped_counts (counts_after c m)

-- an act of which no line is printed becomes a log entry, which is counted where counts are printed; or memory ran out,
-- it becomes none, and the book stays
abbrev pub MakesAct : Type 0 → ImageValue → Telling → (at : ℕ) → (told new_told : SoTold) → Act → PlayState → PlayState
    → Result (Unit {0}) StoryStop → Type 0
MakesAct N image telling at told new_told act old new (Ok done) =
    (m : Moment N) × IsMomentAt image at (told.moments + 1) act m old new
    × CountsMoment telling m told.counts new_told.counts
MakesAct N image telling at told new_told act old new (Err stop) =
    (stop ≡ stops.Memory) × (new.book ≡ old.book)
