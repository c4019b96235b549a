-- What is found before anything is printed, and why.
use Rattle.std.specs.Prelude.{ℕ, ◌^◌, ◌<◌, List, All, MatchResult, Result, length}
use Rattle.watch_play.specs.step_script.Ranges.{ActIsInRange}
use Rattle.program_call.specs.declared.input.FrontFault.{FrontFault}
use Rattle.program_call.specs.Call.{Input}
use Rattle.program_call.specs.Given.{IsFrontFault, ReadsImage}
use Rattle.fractal_watch.specs.declared.finding.Finding.{Finding}
use Rattle.fractal_watch.specs.declared.finding.Finding.TheVariants as finding
use Rattle.fractal_watch.specs.Given.{IsWatchNoScript, front}
use Rattle.fractal_watch.specs.Watched.{HasActs}

-- why something was found
abbrev pub IsWatchFound : Input → Finding → Type 0
IsWatchFound input (finding.NoScript line) = IsWatchNoScript input line
IsWatchFound input (finding.Ready asking image script) =
    (behind : List ℕ) × ReadsImage front input asking image behind × HasActs asking.course asking behind script.items

-- why it was, or why the call has no image to run
abbrev pub IsFoundOrFault : Input → Result Finding FrontFault → Type 0
IsFoundOrFault input found = MatchResult found (IsWatchFound input) (IsFrontFault front input)

-- the acts that are to be played act within the machine, and are fewer than 2^32
abbrev pub IsPlayable : Finding → Type 0
IsPlayable (finding.Ready asking image script) =
    (length script.items < 2 ^ 32)
    × All (ActIsInRange asking.request.settings.tiles asking.request.settings.cores) script.items
IsPlayable (finding.NoScript line) = Unit {0}
