-- The command in the form that `clap` takes: ten options, and places for three further arguments.
use Rattle.std.specs.Prelude.{ℕ, ◌≡◌, Some, true, List, codes}
use Rattle.std.specs.declared.option.Option.{Option}
use Rattle.clap.specs.Words.{App, Rule, Text, first_value, new_app, new_rule, with_rule}
use Rattle.clap.specs.declared.parser.matches.Found.{Found}
use Rattle.command_line.specs.Reading.{Given, given_in, text_in, kind, seed, size}

-- an option with a text: `--name text` or `--name=text`
abbrev pub option_rule : Text → Rule
option_rule name = record (new_rule name) { long = Some name }

-- no program's name among the words, no help and no version
unfoldable pub plain_app : App
plain_app =
    let a = new_app (codes "fractal_sim") in
    record a { top = record a.top { no_binary_name = true; disable_help_flag = true; disable_version_flag = true } }

abbrev pub with_option : App → Text → App
with_option app name = with_rule app (option_rule name)

-- the options of the machine's sizes
abbrev pub with_sizes : App → App
with_sizes app =
    let one = with_option (with_option app (codes "tiles")) (codes "cores") in
    let two = with_option (with_option one (codes "task-queue")) (codes "commit-queue") in
    with_option two (codes "line")

-- the options of how it runs and how far
abbrev pub with_limits : App → App
with_limits app =
    let one = with_option (with_option app (codes "quantum")) (codes "workers") in
    let two = with_option (with_option one (codes "commits")) (codes "budget") in
    with_option two (codes "phase")

-- the places of the further words
abbrev pub with_places : App → App
with_places app = with_rule (with_rule (with_rule app (new_rule kind)) (new_rule seed)) (new_rule size)

unfoldable pub command_app : App
command_app = with_places (with_limits (with_sizes plain_app))

-- what was found is what the words give, name by name
pub record IsSplit (words : List (List ℕ)) (found : Found) : Type 0 where
  pub given : List Given
  pub given_is : given_in words ≡ Some given
  pub text : (name : List ℕ) → first_value found name ≡ text_in given name
