-- A run that was watched: the story by which it was made.
use Rattle.std.specs.Prelude.{◌≡◌, ℕ, List, [], ◌++◌, length, Some}
use Rattle.guest_image.specs.ImageValue.{ImageValue}
use Rattle.run_journal.specs.declared.end.End.{End}
use Rattle.watch_play.specs.machine_run.Leaving.{LeavesRun}
use Rattle.watch_play.specs.event_def.Book.{BookView}
use Rattle.watch_play.specs.event_def.Opening.{IsOpening}
use Rattle.watch_play.specs.step_script.declared.act.Act.{Act}
use Rattle.watch_play.specs.watch_text.declared.head.CourseWord.{CourseWord}
use Rattle.watch_play.specs.watch_text.declared.head.CourseWord.TheVariants as courses
use Rattle.watch_play.specs.watch_text.Moments.{Moment}
use Rattle.watch_play.specs.Courses.{course_of}
use Rattle.watch_play.specs.Telling.{HasStory, Plan, text_of_course}
use Rattle.program_call.specs.declared.outcome.Outcome.{Outcome}
use Rattle.program_call.specs.Outcomes.{closed_of}
use Rattle.program_call.specs.Call.{Input}
use Rattle.fractal_watch.specs.declared.words.Asking.{Asking}
use Rattle.program_call.specs.Given.{ReadsImage}
use Rattle.fractal_watch.specs.Given.{IsWatchScript, front}
use Rattle.fractal_watch.specs.Texts.{end_text}

-- what is to be printed of an image
abbrev pub plan_of : Asking → ImageValue → List Act → Plan
plan_of asking image script = record {
  course = course_of asking.course asking.request.settings script;
  settings = asking.request.settings;
  image = image;
  telling = asking.telling;
}

-- the acts of the script after the image; none outside mode `steps`
abbrev pub HasActs : CourseWord → Asking → List ℕ → List Act → Type 0
HasActs courses.Steps asking behind script = IsWatchScript asking behind script
HasActs other asking behind script = script ≡ []

-- the words ask for a mode, and so many acts of it, from an opening of the image that was read, gave these moments
-- and led to a book which leaves the run that the outcome holds, by as many events as it says
pub record IsWatched (N : Type 0) (image : ImageValue) (input : Input) (o : Outcome) : Type 0 where
  pub asking : Asking
  pub behind : List ℕ
  pub given : ReadsImage front input asking image behind
  pub script : List Act
  pub script_is : HasActs asking.course asking behind script
  pub opening : BookView
  pub is_opening : IsOpening image asking.request.settings input.placers [] opening
  pub book : BookView
  pub moments : List (Moment N)
  pub story : HasStory (plan_of asking image script) opening moments book
  pub events : ℕ
  pub leaves : LeavesRun book events (closed_of o)
  pub steps_is : o.steps ≡ Some events

-- the text of its story, as of one played to its end: the lines, or the lines of counts
abbrev pub lines_of_watched : {N : Type 0} {image : ImageValue} {input : Input} {o : Outcome}
    → IsWatched N image input o → List ℕ
lines_of_watched {N} {image} w = text_of_course (plan_of w.asking image w.script) w.opening w.moments w.book w.story

-- the same with the end of the run, where it stands so: where its memory is printed, the text is the memory that the
-- outcome holds
abbrev pub text_of_watched : {N : Type 0} {image : ImageValue} {input : Input} {o : Outcome}
    → IsWatched N image input o → End → List ℕ
text_of_watched {N} {image} {input} {o} w end =
    lines_of_watched w ++ end_text w.asking.telling image end w.events (length o.journal) o.output o.memory
