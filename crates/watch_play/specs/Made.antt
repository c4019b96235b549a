-- What becomes of an act, and what is printed after it.
use Rattle.std.specs.Prelude.{◌≡◌, ◌⊎◌, ◌+◌, ℕ, Result, Ok, Err}
use Rattle.guest_image.specs.ImageValue.{ImageValue}
use Rattle.place_policy.specs.Policy.{Policy}
use Rattle.sim_io.specs.Parts.{Writes}
use Rattle.sim_io.specs.Streams.{SinkState}
use Rattle.trace_tap.specs.TapValue.{TapValue}
use Rattle.watch_counts.specs.conflict_book.BookViews.{view_of}
use Rattle.watch_counts.specs.step_script.declared.act.Act.{Act}
use Rattle.watch_counts.specs.step_script.Playing.{PlayState}
use Rattle.watch_counts.specs.watch_text.Moments.{Moment}
use Rattle.watch_play.specs.declared.stop.StoryStop.{StoryStop}
use Rattle.watch_play.specs.declared.stop.StoryStop.TheVariants as stops
use Rattle.watch_play.specs.declared.telling.Telling.{Telling}
use Rattle.watch_play.specs.declared.watch.Play.{Play}
use Rattle.watch_play.specs.declared.watch.SoTold.{SoTold}
use Rattle.watch_play.specs.Playing.{CountsMoment, IsMomentAt}
use Rattle.watch_play.specs.Texts.{moment_lines}

-- the play of what plays
abbrev pub play_of : {N P T : Type 0} → (P → Policy) → (T → TapValue) → Play N P T → PlayState
play_of policy notes play = record { book = view_of policy notes play.book; held = play.player.held }

-- an act is played, and printed where lines are, or counted where counts are: it becomes a log entry, of whose lines
-- the sink took all, a prefix, or nothing; or it becomes no entry
abbrev pub TellsAct : Type 0 → ImageValue → Telling → (at : ℕ) → (told new_told : SoTold) → Act → PlayState → PlayState
    → SinkState → SinkState → Result (Unit {0}) StoryStop → Type 0
TellsAct N image telling at told new_told act old new before after (Ok done) =
    (m : Moment N) × IsMomentAt image at (told.moments + 1) act m old new
    × CountsMoment telling m told.counts new_told.counts
    × Writes {E = StoryStop} before after (Ok done) (moment_lines telling m)
TellsAct N image telling at told new_told act old new before after (Err stops.Memory) =
    (((m : Moment N) × IsMomentAt image at (told.moments + 1) act m old new) ⊎ (new.book ≡ old.book)) × (after ≡ before)
TellsAct N image telling at told new_told act old new before after (Err stops.Sink) =
    (m : Moment N) × IsMomentAt image at (told.moments + 1) act m old new
    × Writes {E = StoryStop} before after (Err stops.Sink) (moment_lines telling m)
