-- What words ask for: a command with its settings.
use Rattle.std.specs.Prelude.{ℕ, ◌^◌, ◌-◌, ◌≤◌, ◌&&◌, Bool, nat_le, List, [], ◌∷◌, length, codes, is_none}
use Rattle.std.specs.Prelude.{if◌then◌else◌}
use Rattle.std.specs.Prelude.{Some, None, option_and_then}
use Rattle.std.specs.declared.option.Option.{Option}
use Rattle.std.specs.List.{list_all}
use Rattle.std.specs.Char.{is_ascii_digit}
use Rattle.std.specs.Str.{bytes_eq}
use Rattle.std.specs.Str.Parse.{digits_value}
use Rattle.text_lines.specs.Lines.{◌>>=◌}
use Rattle.line_table.specs.declared.lines.FilterKind.TheVariants.{Modulo}
use Rattle.load_gen.specs.declared.making.Load.{Load}
use Rattle.load_gen.specs.declared.making.Load.TheVariants.{Walk, Nest}
use Rattle.spec_state.specs.declared.settings.Settings.{Settings}
use Rattle.spec_state.specs.Settings.{IsValid}
use Rattle.command_line.specs.declared.request.Command.{Command}
use Rattle.command_line.specs.declared.request.Command.TheVariants as commands
use Rattle.command_line.specs.declared.request.Request.{Request}
use Rattle.command_line.specs.Settings as table
use Rattle.command_line.specs.Settings.{Setting, between}
use Rattle.command_line.specs.Reading.{text_in, given_in, kind, seed, size}

-- the texts that are given, by their names
abbrev pub Texts : Type 0
Texts = List ℕ → Option (List ℕ)

-- a number is written in 1 to 10 digits, leading zeros allowed
abbrev pub is_number : List ℕ → Bool
is_number text = list_all is_ascii_digit text && (nat_le 1 (length text) && nat_le (length text) 10)

abbrev pub number_of : List ℕ → Option ℕ
number_of text = if is_number text then Some (digits_value 10 text) else None

-- the number that a text writes, where it is allowed
abbrev pub number_in : (ℕ → Bool) → List ℕ → Option ℕ
number_in allows text = number_of text >>= λ number. if allows number then Some number else None

-- the number of a setting whose option has this text, or isn't given
abbrev pub setting_value : Setting → Option (List ℕ) → Option ℕ
setting_value s None = Some s.default
setting_value s (Some text) = number_in s.allows text

-- the number of a setting, by the texts that are given
abbrev pub setting_number : Setting → Texts → Option ℕ
setting_number s text = setting_value s (text s.name)

-- all settings; none where the text of an option isn't one of its values. Filters are of the kind Modulo
unfoldable pub settings_by : Texts → Option Settings
settings_by text =
    setting_number table.tiles text >>= λ tiles. setting_number table.cores text >>= λ cores.
    setting_number table.task_queue text >>= λ task_queue. setting_number table.commit_queue text >>= λ commit_queue.
    setting_number table.line text >>= λ line. setting_number table.quantum text >>= λ quantum.
    setting_number table.workers text >>= λ workers. setting_number table.commits text >>= λ commits.
    setting_number table.budget text >>= λ budget. setting_number table.phase text >>= λ phase.
    Some (record {
      tiles = tiles;
      cores = cores;
      task_queue = task_queue;
      commit_queue = commit_queue;
      line = line;
      quantum = quantum;
      workers = workers;
      commits = commits;
      budget = budget;
      phase = phase;
      filter = Modulo;
    })

-- the greatest seed and the greatest size of a generated image; the least size is 1
abbrev pub greatest_seed : ℕ
greatest_seed = 2 ^ 32 - 1

abbrev pub greatest_size : Load → ℕ
greatest_size Walk = 100000
greatest_size Nest = 10000

abbrev pub load_of : List ℕ → Option Load
load_of text =
    if bytes_eq text (codes "walk") then Some Walk
    else if bytes_eq text (codes "nest") then Some Nest
    else None

-- `load` with its three further words: a kind, a seed, a size
unfoldable pub load_by : Texts → Option Command
load_by text =
    text kind >>= load_of >>= λ load. text seed >>= number_in (between 0 greatest_seed) >>= λ seed_number.
    text size >>= number_in (between 1 (greatest_size load)) >>= λ size_number.
    Some (commands.Load load seed_number size_number)

-- a command without further words
abbrev pub alone : Command → Texts → Option Command
alone command text = if is_none (text kind) then Some command else None

-- the command of the first word
unfoldable pub command_by : List ℕ → Texts → Option Command
command_by word text =
    if bytes_eq word (codes "run") then alone commands.Run text
    else if bytes_eq word (codes "save") then alone commands.Save text
    else if bytes_eq word (codes "steps") then alone commands.Steps text
    else if bytes_eq word (codes "trace") then alone commands.Trace text
    else if bytes_eq word (codes "check") then alone commands.Check text
    else if bytes_eq word (codes "load") then load_by text
    else None

-- a command with its settings, by the texts that are given
unfoldable pub request_by : List ℕ → Texts → Option Request
request_by word text =
    command_by word text >>= λ command. settings_by text >>= λ settings.
    Some (record { command = command; settings = settings })

-- what the words ask for; none where they are refused
abbrev pub request_of_words : List (List ℕ) → Option Request
request_of_words [] = None
request_of_words (word ∷ words) = given_in words >>= λ given. request_by word (text_in given)

-- the size of a generated image is in the range of its kind
abbrev pub HasSize : Command → Type 0
HasSize commands.Run = Unit {0}
HasSize commands.Save = Unit {0}
HasSize commands.Steps = Unit {0}
HasSize commands.Trace = Unit {0}
HasSize commands.Check = Unit {0}
HasSize (commands.Load load drawn_from large) = (1 ≤ large) × (large ≤ greatest_size load)

-- the settings are in their ranges, and so is the size of a generated image
pub record IsLimited (request : Request) : Type 0 where
  pub settings : IsValid request.settings
  pub size : HasSize request.command
