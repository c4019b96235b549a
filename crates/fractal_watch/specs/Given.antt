-- What words may ask of the program, the image that they ask for, and the script after it.
use Rattle.std.specs.Prelude.{◌≡◌, ℕ, List, Ok, Err}
use Rattle.guest_image.specs.ImageValue.{ImageValue}
use Rattle.command_line.specs.Requests.{IsLimited}
use Rattle.watch_play.specs.step_script.declared.act.Act.{Act}
use Rattle.watch_play.specs.step_script.Grammar.{acts_of}
use Rattle.watch_play.specs.watch_text.declared.head.CourseWord.TheVariants as courses
use Rattle.program_call.specs.Call.{Input}
use Rattle.program_call.specs.Front.{Front}
use Rattle.program_call.specs.Given.{ReadsImage}
use Rattle.fractal_watch.specs.declared.words.Asking.{Asking}
use Rattle.fractal_watch.specs.Texts.{image_fault_object, long_line, usage_line}
use Rattle.fractal_watch.specs.Words.{asking_of_words, IsInRanges}

-- what is asked for is within its limits
pub record IsWithin (asking : Asking) : Type 0 where
  pub limits : IsLimited asking.request
  pub ranges : IsInRanges asking

-- the program's front: whatever words ask for reads the source
abbrev pub front : Front
front = record {
  Asked = Asking;
  asked_in = asking_of_words;
  Reads = λ asking. Unit {0};
  IsWithin = IsWithin;
  commits = λ asking. asking.request.settings.commits;
  budget = λ asking. asking.request.settings.budget;
  usage_line = usage_line;
  long_line = long_line;
  image_line = image_fault_object;
}

-- the image that the words ask for: the one at the front of the source
abbrev pub HasImage : Input → Asking → ImageValue → Type 0
HasImage input asking image = (behind : List ℕ) × ReadsImage front input asking image behind

-- the text behind the image is this script, for the machine of these settings
abbrev pub IsWatchScript : Asking → List ℕ → List Act → Type 0
IsWatchScript asking behind script =
    acts_of behind asking.request.settings.tiles asking.request.settings.cores ≡ Ok script

-- a script is to be played, and the text after the image isn't one: this is its first wrong line
pub record IsWatchNoScript (input : Input) (line : ℕ) : Type 0 where
  pub asking : Asking
  pub image : ImageValue
  pub behind : List ℕ
  pub given : ReadsImage front input asking image behind
  pub course : asking.course ≡ courses.Steps
  pub wrong : acts_of behind asking.request.settings.tiles asking.request.settings.cores ≡ Err line
