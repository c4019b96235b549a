-- The status that is due to an image, where nothing fails and memory suffices.
use Rattle.std.specs.Prelude.{◌≡◌, ℕ, List, Err}
use Rattle.guest_image.specs.ImageValue.{ImageValue}
use Rattle.run_journal.specs.declared.end.End.{End}
use Rattle.watch_play.specs.step_script.declared.act.Act.{Act}
use Rattle.watch_play.specs.step_script.Grammar.{acts_of}
use Rattle.watch_play.specs.watch_text.declared.head.CourseWord.TheVariants as courses
use Rattle.program_call.specs.Complete.{BeginsWithImage}
use Rattle.fractal_watch.specs.declared.words.Asking.{Asking}
use Rattle.fractal_watch.specs.Given.{front}
use Rattle.fractal_watch.specs.Texts.{watch_status}
use Rattle.fractal_watch.specs.Watched.{HasActs}

-- the status that is due to words and to bytes that are all there is; how the run ended is in the outcome
pub data IsDueBehind (words : List (List ℕ)) (bytes : List ℕ) : ℕ → Type 0 where
  NoScript : (asking : Asking) (image : ImageValue) (behind : List ℕ) (line : ℕ)
      → BeginsWithImage front words bytes asking image behind → asking.course ≡ courses.Steps
      → acts_of behind asking.request.settings.tiles asking.request.settings.cores ≡ Err line
      → IsDueBehind words bytes 9
  Played : (asking : Asking) (image : ImageValue) (behind : List ℕ) (script : List Act) (end : End)
      → BeginsWithImage front words bytes asking image behind → HasActs asking.course asking behind script
      → IsDueBehind words bytes (watch_status end)
