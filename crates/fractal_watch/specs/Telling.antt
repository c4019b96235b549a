-- How a run is printed.
use Rattle.std.specs.Prelude.{◌≡◌, ℕ, List, []}
use Rattle.guest_image.specs.ImageValue.{ImageValue}
use Rattle.place_policy.specs.Policy.{Policy}
use Rattle.sim_io.specs.Streams.{SinkState}
use Rattle.watch_play.specs.event_def.Book.{BookView}
use Rattle.watch_play.specs.event_def.Opening.{IsOpening}
use Rattle.watch_play.specs.step_script.declared.act.Act.{Act}
use Rattle.program_call.specs.declared.outcome.Outcome.{Outcome}
use Rattle.program_call.specs.Call.{Input, call_on}
use Rattle.program_call.specs.Given.{ReadsImage}
use Rattle.program_call.specs.Program.{Answers}
use Rattle.fractal_watch.specs.declared.words.Asking.{Asking}
use Rattle.fractal_watch.specs.Given.{front}
use Rattle.fractal_watch.specs.Program.{program}
use Rattle.fractal_watch.specs.Watched.{HasActs}

-- the outcome of a book that was begun is an answer, whatever call asked for this
abbrev pub TellsBookOf : Type 0 → ImageValue → Asking → List Act → BookView → (before after : SinkState) → Outcome
    → Type 0
TellsBookOf N image asking script opening before after o =
    (input : Input) (behind : List ℕ) → ReadsImage front input asking image behind
    → HasActs asking.course asking behind script
    → IsOpening image asking.request.settings input.placers [] opening
    → Answers (program N) (call_on input before after) o

-- and so is that of an image that is to be watched
abbrev pub TellsRunOf : Type 0 → ImageValue → Asking → List Act → List Policy → (before after : SinkState) → Outcome
    → Type 0
TellsRunOf N image asking script placers before after o =
    (input : Input) (behind : List ℕ) → input.placers ≡ placers → ReadsImage front input asking image behind
    → HasActs asking.course asking behind script → Answers (program N) (call_on input before after) o
