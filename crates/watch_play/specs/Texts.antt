-- The text of a story.
use Rattle.std.specs.Prelude.{◌%◌, ◌≤◌, ◌==◌, ◌&&◌, ℕ, Bool, true, false, not, List, [], ◌++◌, if◌then◌else◌}
use Rattle.std.specs.List.{flat_map}
use Rattle.guest_image.specs.ImageValue.{ImageValue}
use Rattle.watch_counts.specs.spec_state.declared.settings.Settings.{Settings}
use Rattle.watch_counts.specs.spec_state.View.{View}
use Rattle.watch_counts.specs.watch_text.Lines.{line_of}
use Rattle.watch_counts.specs.watch_text.Moments.{Moment}
use Rattle.watch_counts.specs.watch_text.Opening.{head_line, placed_lines}
use Rattle.watch_counts.specs.watch_text.Views.{view_line}
use Rattle.watch_play.specs.declared.telling.Telling.{Telling}
use Rattle.watch_play.specs.declared.telling.Telling.TheVariants as tellings
use Rattle.watch_play.specs.Courses.{Course, course_word}

-- where views are printed, they are printed after each K-th log entry, K at least 1
abbrev pub IsTellable : Telling → Type 0
IsTellable (tellings.Views each) = 1 ≤ each
IsTellable other = Unit {0}

-- lines are printed
abbrev pub has_lines : Telling → Bool
has_lines tellings.Memory = false
has_lines (tellings.Counts each) = false
has_lines other = true

-- counts are printed
abbrev pub has_counts : Telling → Bool
has_counts (tellings.Counts each) = true
has_counts other = false

-- counts are printed after this number of rounds, or log entries where the driver has no rounds: a multiple of K,
-- unless that is 0
abbrev pub are_counts_due : Telling → ℕ → Bool
are_counts_due (tellings.Counts each) number = not (each == 0) && number % each == 0
are_counts_due other number = false

-- a view is printed after the log entry of this number: a multiple of K
abbrev pub is_due : Telling → ℕ → Bool
is_due (tellings.Views each) number = number % each == 0
is_due other number = false

-- the view after the log entry of this number, where one is printed there; else nothing
abbrev pub view_text : Telling → ℕ → View → ℕ → List ℕ
view_text telling number view events = if is_due telling number then view_line view events else []

-- the lines of a log entry, where lines are printed: its own, and the view where one is printed after it, with the
-- count of events (`steps`)
abbrev pub moment_lines : {N : Type 0} → Telling → Moment N → List ℕ
moment_lines telling m =
    if has_lines telling then line_of m ++ view_text telling m.number m.new.view m.new.steps else []

-- the lines before the first act, where lines are printed; where counts are, only the first line
abbrev pub opening_lines : Course → Settings → ImageValue → View → Telling → List ℕ
opening_lines course settings image opening telling =
    if has_lines telling then head_line (course_word course) settings image ++ placed_lines opening
    else if has_counts telling then head_line (course_word course) settings image else []

-- the lines of an event log, up to its last entry, where lines are printed; where counts are, only the first line
abbrev pub story_lines : {N : Type 0} → Course → Settings → ImageValue → View → Telling → List (Moment N) → List ℕ
story_lines course settings image opening telling moments =
    if has_lines telling
    then opening_lines course settings image opening telling ++ flat_map (moment_lines telling) moments
    else opening_lines course settings image opening telling
