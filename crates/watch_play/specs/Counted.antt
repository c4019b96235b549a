-- What is counted of an event log, act by act from its opening on, and the lines of counts that are printed on the way.
use Rattle.std.specs.Prelude.{◌≡◌, ◌==◌, ◌&&◌, ℕ, zero, suc, Bool, true, not, List, [], ◌++◌}
use Rattle.std.specs.Prelude.{if◌then◌else◌}
use Rattle.guest_image.specs.ImageValue.{ImageValue}
use Rattle.watch_counts.specs.spec_state.View.{View}
use Rattle.watch_counts.specs.event_def.Book.{BookView}
use Rattle.watch_counts.specs.step_script.Playing.{PlayState}
use Rattle.watch_counts.specs.declared.counts.Counts.{Counts}
use Rattle.watch_counts.specs.Capped.{capped_counts}
use Rattle.watch_counts.specs.Counts.{after_passed, after_round, counts_after, counts_at}
use Rattle.watch_counts.specs.Texts.{counts_line}
use Rattle.watch_counts.specs.watch_text.Moments.{Moment}
use Rattle.watch_play.specs.declared.telling.Telling.{Telling}
use Rattle.watch_play.specs.Courses.{Course, OfRounds, Stage}
use Rattle.watch_play.specs.Stories.{ActComes, Makes, Passes, StoryLeads}
use Rattle.watch_play.specs.Texts.{are_counts_due, has_counts}

-- behind an act that came: it passed, or was a moment
abbrev pub after_act : {N : Type 0} {image : ImageValue} {course : Course} {number : ℕ} {at : Stage}
    {front : List (Moment N)} {old : PlayState} {moments : List (Moment N)} {new : PlayState}
    → ActComes image course number at front old moments new → Counts → Counts
after_act (Passes act is passes same_moments same) counts = after_passed act counts
after_act (Makes m is asked at_is number_is moment moments_are) counts = counts_after counts m

-- behind an act that led from a stage to the next one: the last act of a round ends it
abbrev pub after_stage : (at stage : Stage) → Counts → Counts
after_stage at stage counts = if stage.round == at.round then counts else after_round counts

-- the counts of a story
abbrev pub counts_of : {N : Type 0} (image : ImageValue) (course : Course) (opening : BookView) (number : ℕ)
    (stage : Stage) (moments : List (Moment N)) (new : PlayState)
    → StoryLeads image course opening number stage moments new → Counts
counts_of image course opening zero stage moments new leads = counts_at opening.view
counts_of image course opening (suc number) stage moments new leads = after_stage leads.2 stage
    (after_act leads.4 (counts_of image course opening number leads.2 leads.0 leads.1 leads.3))

-- counts are printed after the act of this number, which led from one stage to the other: in rounds after the last act
-- of each K-th round, else after each K-th act
abbrev pub is_due_behind : Telling → Course → (number : ℕ) → (at stage : Stage) → Bool
is_due_behind telling (OfRounds rounds seed most settings) number at stage =
    not (stage.round == at.round) && are_counts_due telling stage.round
is_due_behind telling other number at stage = are_counts_due telling number

-- the line of counts after it, from the counts before the end of its round, where counts are printed
abbrev pub line_behind : Telling → Course → (number : ℕ) → (at stage : Stage) → Counts → View → List ℕ
line_behind telling course number at stage counts view = if has_counts telling
    then (if is_due_behind telling course number at stage then counts_line (after_stage at stage counts) view else [])
    else []

-- the lines of counts of a story so far
abbrev pub counts_lines : {N : Type 0} → Telling → (image : ImageValue) (course : Course) (opening : BookView)
    (number : ℕ) (stage : Stage) (moments : List (Moment N)) (new : PlayState)
    → StoryLeads image course opening number stage moments new → List ℕ
counts_lines telling image course opening zero stage moments new leads = []
counts_lines telling image course opening (suc number) stage moments new leads =
    counts_lines telling image course opening number leads.2 leads.0 leads.1 leads.3
    ++ (if is_due_behind telling course (suc number) leads.2 stage
    then counts_line (counts_of image course opening (suc number) stage moments new leads) new.book.view else [])

-- the counts at the end of a driver, where counts are printed
abbrev pub last_counts : Telling → Counts → PlayState → List ℕ
last_counts telling counts new = if has_counts telling then counts_line counts new.book.view else []

-- where counts are printed, the code has the counts of the event log
abbrev pub AreCounted : {N : Type 0} → Telling → (image : ImageValue) (course : Course) (opening : BookView)
    (number : ℕ) (stage : Stage) (moments : List (Moment N)) (new : PlayState)
    → StoryLeads image course opening number stage moments new → Counts → Type 0
AreCounted telling image course opening number stage moments new leads counts =
    has_counts telling ≡ true
    → counts ≡ capped_counts (counts_of image course opening number stage moments new leads)
