-- How much of an event log was printed.
use Rattle.std.specs.Prelude.{◌≡◌, ◌⊎◌, ◌+◌, ◌<◌, ◌≤◌, ◌++◌, ℕ, List, [], Result, Ok, Err, length}
use Rattle.std.specs.Prelude.{true, if◌then◌else◌}
use Rattle.guest_image.specs.ImageValue.{ImageValue}
use Rattle.sim_io.specs.Causes.{Rose}
use Rattle.sim_io.specs.Parts.{SinkTakes, TakesFront}
use Rattle.sim_io.specs.Streams.{SinkState}
use Rattle.watch_counts.specs.spec_state.declared.settings.Settings.{Settings}
use Rattle.watch_counts.specs.event_def.Book.{BookView}
use Rattle.watch_counts.specs.step_script.Playing.{PlayState}
use Rattle.watch_counts.specs.Capped.{capped_counts}
use Rattle.watch_counts.specs.watch_text.Moments.{Moment}
use Rattle.watch_play.specs.declared.stop.StoryStop.{StoryStop}
use Rattle.watch_play.specs.declared.stop.StoryStop.TheVariants as stops
use Rattle.watch_play.specs.declared.telling.Telling.{Telling}
use Rattle.watch_play.specs.declared.watch.SoTold.{SoTold}
use Rattle.watch_play.specs.Courses.{Course, EndsAt, Stage}
use Rattle.watch_play.specs.Stories.{ActComes, StoryLeads, begun}
use Rattle.watch_play.specs.Counted.{AreCounted, after_act, counts_lines, counts_of, last_counts}
use Rattle.watch_play.specs.Texts.{has_counts, opening_lines, story_lines}

-- what is printed of a driver on a machine of these settings, of this image
pub record Plan : Type 0 where
  pub course : Course
  pub settings : Settings
  pub image : ImageValue
  pub telling : Telling

-- the lines of a story by this plan
abbrev pub lines_by : {N : Type 0} → Plan → BookView → List (Moment N) → List ℕ
lines_by plan opening moments =
    story_lines plan.course plan.settings plan.image opening.view plan.telling moments

-- the log's lines, followed by these lines of counts where counts are printed
abbrev pub text_with : {N : Type 0} → Plan → BookView → (counts : List ℕ) → List (Moment N) → List ℕ
text_with plan opening counts moments = if has_counts plan.telling
    then lines_by plan opening moments ++ counts
    else lines_by plan opening moments

-- the text of a story so far by this plan: its lines, or the head and the lines of counts that were due
abbrev pub text_so_far : {N : Type 0} (plan : Plan) (opening : BookView) (count : ℕ) (stage : Stage)
    (moments : List (Moment N)) (play : PlayState)
    → StoryLeads plan.image plan.course opening count stage moments play → List ℕ
text_so_far plan opening count stage moments play goes = text_with plan opening
    (counts_lines plan.telling plan.image plan.course opening count stage moments play goes) moments

-- the first `count` acts of the driver led here, through these log entries
pub record HasStory {N : Type 0} (plan : Plan) (opening : BookView) (moments : List (Moment N)) (book : BookView)
    : Type 0 where
  pub count : ℕ
  pub stage : Stage
  pub last : PlayState
  pub goes : StoryLeads plan.image plan.course opening count stage moments last
  pub book_is : book ≡ last.book

-- the text of such a story
abbrev pub text_of_story : {N : Type 0} (plan : Plan) (opening : BookView) (moments : List (Moment N))
    (book : BookView) → HasStory plan opening moments book → List ℕ
text_of_story plan opening moments book s = text_so_far plan opening s.count s.stage moments s.last s.goes

-- the text of a log whose driver ended: the counts come last, where counts are printed
abbrev pub text_of_course : {N : Type 0} (plan : Plan) (opening : BookView) (moments : List (Moment N))
    (book : BookView) → HasStory plan opening moments book → List ℕ
text_of_course plan opening moments book s = text_of_story plan opening moments book s
    ++ last_counts plan.telling
    (counts_of plan.image plan.course opening s.count s.stage moments s.last s.goes) s.last

-- the driver was played to its end, and all of its log was printed
pub record IsAllTold (N : Type 0) (plan : Plan) (opening book : BookView) (before after : SinkState) : Type 0 where
  pub moments : List (Moment N)
  pub story : HasStory plan opening moments book
  pub ends : EndsAt plan.course story.stage book.view
  pub took : SinkTakes before after (text_of_course plan opening moments book story)
  pub later : before.faults ≤ after.faults

-- the sink has the text of this story, or of the one that led to its last act or round: the lines of all of its
-- moments, or of all but the last
pub data TookMost {N : Type 0} (plan : Plan) (opening : BookView) (moments : List (Moment N)) (book : BookView)
    (story : HasStory plan opening moments book) (before after : SinkState) : Type 0 where
  AllTaken : SinkTakes before after (text_of_story plan opening moments book story)
      → TookMost plan opening moments book story before after
  MostTaken : (front : List (Moment N)) (old : BookView) (shorter : HasStory plan opening front old)
      → shorter.count < story.count → length moments ≤ length front + 1
      → SinkTakes before after (text_of_story plan opening front old shorter)
      → TookMost plan opening moments book story before after

-- memory ran out, after whole lines: nothing was printed of a book at its opening, or all log entries were, except
-- perhaps the last one
pub record IsToldInPart (N : Type 0) (plan : Plan) (opening book : BookView) (before after : SinkState) : Type 0 where
  pub moments : List (Moment N)
  pub story : HasStory plan opening moments book
  pub took : ((moments ≡ []) × (after ≡ before)) ⊎ TookMost plan opening moments book story before after

-- the sink failed: it has a front of the text of this story, with the counts at its end or without
pub record IsCutOff (N : Type 0) (plan : Plan) (opening book : BookView) (before after : SinkState) : Type 0 where
  pub moments : List (Moment N)
  pub story : HasStory plan opening moments book
  pub took : TakesFront before after (text_of_course plan opening moments book story)
  pub rose : Rose before.faults after.faults

-- how much of an event log was printed, by the result
abbrev pub Tells : Type 0 → Plan → BookView → BookView → SinkState → SinkState → Result (Unit {0}) StoryStop → Type 0
Tells N plan opening book before after (Ok done) = IsAllTold N plan opening book before after
Tells N plan opening book before after (Err stops.Memory) = IsToldInPart N plan opening book before after
Tells N plan opening book before after (Err stops.Sink) = IsCutOff N plan opening book before after

-- ---- a story that goes on

-- the first `count` acts of the driver led here, to this stage, through these log entries, all of which were printed,
-- or counted
pub record IsSoFar {N : Type 0} (plan : Plan) (opening : BookView) (count : ℕ) (stage : Stage) (told : SoTold)
    (moments : List (Moment N)) (play : PlayState) (before now : SinkState) : Type 0 where
  pub goes : StoryLeads plan.image plan.course opening count stage moments play
  pub told_are : length moments ≡ told.moments
  pub counted : AreCounted plan.telling plan.image plan.course opening count stage moments play goes told.counts
  pub took : SinkTakes before now (text_so_far plan opening count stage moments play goes)
  pub later : before.faults ≤ now.faults

-- some story led so far
abbrev pub GoesSoFar : (N : Type 0) → Plan → BookView → (count : ℕ) → Stage → (told : SoTold) → PlayState
    → (before now : SinkState) → Type 0
GoesSoFar N plan opening count stage told play before now =
    (moments : List (Moment N)) × IsSoFar plan opening count stage told moments play before now

-- the first `count` acts of the driver led on from there, to this stage, or the log ended on the way
abbrev pub GoesOn : (N : Type 0) → Plan → BookView → (count : ℕ) → Stage → (told : SoTold) → (new : PlayState)
    → (before after : SinkState) → Result (Unit {0}) StoryStop → Type 0
GoesOn N plan opening count stage told new before after (Ok done) =
    GoesSoFar N plan opening count stage told new before after
GoesOn N plan opening count stage told new before after (Err stop) =
    Tells N plan opening new.book before after (Err stop)

-- after a log so far, at this stage, the next act was played: its lines were printed where lines are, and it was
-- counted where counts are, but the end of its round wasn't counted yet, nor were the counts printed that may be due
-- after it
pub record HasCome (N : Type 0) (plan : Plan) (opening : BookView) (count : ℕ) (stage : Stage) (told : SoTold)
    (play : PlayState) (before now : SinkState) : Type 0 where
  pub front : List (Moment N)
  pub old : PlayState
  pub goes : StoryLeads plan.image plan.course opening count stage front old
  pub moments : List (Moment N)
  pub comes : ActComes plan.image plan.course count stage front old moments play
  pub told_are : length moments ≡ told.moments
  pub counted : has_counts plan.telling ≡ true → told.counts ≡ capped_counts
      (after_act comes (counts_of plan.image plan.course opening count stage front old goes))
  pub took : SinkTakes before now (text_with plan opening
      (counts_lines plan.telling plan.image plan.course opening count stage front old goes) moments)
  pub later : before.faults ≤ now.faults

-- so it came, or the story ended on the way
abbrev pub ComesOn : (N : Type 0) → Plan → BookView → (count : ℕ) → Stage → (told : SoTold) → (new : PlayState)
    → (before after : SinkState) → Result (Unit {0}) StoryStop → Type 0
ComesOn N plan opening count stage told new before after (Ok done) =
    HasCome N plan opening count stage told new before after
ComesOn N plan opening count stage told new before after (Err stop) =
    Tells N plan opening new.book before after (Err stop)

-- the plan of these parts
abbrev pub plan_with : ImageValue → Telling → Course → Settings → Plan
plan_with image telling course settings =
    record { course = course; settings = settings; image = image; telling = telling }

-- whatever story led to the act of this number at this stage, that comes, or the story ends there
abbrev pub ActComesOn : (N : Type 0) → ImageValue → Telling → Course → (number : ℕ) → Stage → (told new_told : SoTold)
    → (old new : PlayState) → (now after : SinkState) → Result (Unit {0}) StoryStop → Type 0
ActComesOn N image telling course number stage told new_told old new now after result =
    (settings : Settings) (opening : BookView) (start : SinkState)
    → GoesSoFar N (plan_with image telling course settings) opening number stage told old start now
    → ComesOn N (plan_with image telling course settings) opening number stage new_told new start after result

-- and it leads on to the next stage, or the story ends there
abbrev pub ActGoesOn : (N : Type 0) → ImageValue → Telling → Course → (number : ℕ) → (stage next : Stage)
    → (told new_told : SoTold) → (old new : PlayState) → (now after : SinkState) → Result (Unit {0}) StoryStop → Type 0
ActGoesOn N image telling course number stage next told new_told old new now after result =
    (settings : Settings) (opening : BookView) (start : SinkState)
    → GoesSoFar N (plan_with image telling course settings) opening number stage told old start now
    → GoesOn N (plan_with image telling course settings) opening (number + 1) next new_told new start after result

-- ---- the opening

-- a text was printed, or not, by the result
abbrev pub TellsText : List ℕ → SinkState → SinkState → Result (Unit {0}) StoryStop → Type 0
TellsText text before after (Ok done) = SinkTakes before after text × (before.faults ≤ after.faults)
TellsText text before after (Err stops.Memory) = after ≡ before
TellsText text before after (Err stops.Sink) = TakesFront before after text × Rose before.faults after.faults

-- the lines before the first act were
abbrev pub TellsOpening : Plan → BookView → SinkState → SinkState → Result (Unit {0}) StoryStop → Type 0
TellsOpening plan opening before after result =
    TellsText (opening_lines plan.course plan.settings plan.image opening.view plan.telling) before after result

-- a book at its opening, for which no leg is held, and the lines before its first act were printed
pub record IsOpened (plan : Plan) (opening : BookView) (play : PlayState) (before now : SinkState) : Type 0 where
  pub play_is : play ≡ begun opening
  pub took : SinkTakes before now (opening_lines plan.course plan.settings plan.image opening.view plan.telling)
  pub later : before.faults ≤ now.faults

-- whatever this is the opening of, this much of the driver's log is printed after it
abbrev pub TellsCourse : Type 0 → ImageValue → Telling → Course → PlayState → BookView → SinkState → SinkState
    → Result (Unit {0}) StoryStop → Type 0
TellsCourse N image telling course old new now after result =
    (plan : Plan) (opening : BookView) (before : SinkState)
    → plan.image ≡ image → plan.telling ≡ telling → plan.course ≡ course
    → IsOpened plan opening old before now → Tells N plan opening new before after result
