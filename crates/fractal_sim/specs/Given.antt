-- What arguments may request of the program, and the image that they request.
use Rattle.std.specs.Prelude.{◌≡◌, ℕ, List, Some, codes}
use Rattle.guest_image.specs.ImageValue.{ImageValue}
use Rattle.load_gen.specs.declared.making.Load.{Load}
use Rattle.load_gen.specs.Generated.{load_image}
use Rattle.command_line.specs.declared.request.Command.{Command}
use Rattle.command_line.specs.declared.request.Command.TheVariants as commands
use Rattle.command_line.specs.declared.request.Request.{Request}
use Rattle.command_line.specs.Requests.{request_of_words, IsLimited}
use Rattle.program_call.specs.Call.{Input}
use Rattle.program_call.specs.Front.{Front}
use Rattle.program_call.specs.Given.{ReadsImage}
use Rattle.fractal_sim.specs.Texts.{image_fault_line}

-- the command reads the source: each does but `load`
abbrev pub Reads : Command → Type 0
Reads (commands.Load load seed size) = ⊥
Reads other = Unit {0}

-- the program's front end: how arguments are read as a request
abbrev pub front : Front
front = record {
  Asked = Request;
  asked_in = request_of_words;
  Reads = λ request. Reads request.command;
  IsWithin = IsLimited;
  commits = λ request. request.settings.commits;
  budget = λ request. request.settings.budget;
  usage_line = codes "fault usage\n";
  long_line = codes "fault long\n";
  image_line = image_fault_line;
}

-- the arguments request a generated image, which is this one, and the source was not read
pub record Generates (input : Input) (request : Request) (load : Load) (seed size : ℕ) (image : ImageValue)
    : Type 0 where
  pub asked : request_of_words input.words ≡ Some request
  pub command : request.command ≡ commands.Load load seed size
  pub image_is : image ≡ load_image load seed size
  pub untouched : input.source_after ≡ input.source_before

-- the image that the arguments request: the one at the front of the source, or a generated one
pub data HasImage (input : Input) (request : Request) (image : ImageValue) : Type 0 where
  IsRead : (behind : List ℕ) → ReadsImage front input request image behind → HasImage input request image
  IsGenerated : (load : Load) (seed size : ℕ) → Generates input request load seed size image
      → HasImage input request image
