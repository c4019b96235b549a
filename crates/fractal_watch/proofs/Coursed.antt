-- A course behind its opening.
use Rattle.std.proofs.Common.{◌≡◌, ◌++◌, ℕ, inl, List, [], ap, length, refl, sym, subst, Err}
use Rattle.sim_io.specs.Parts.{TakesFront}
use Rattle.sim_io.specs.Streams.{SinkState}
use Rattle.sim_io.proofs.Fronts.{TakesFront-more}
use Rattle.watch_play.specs.spec_state.declared.settings.Settings.{Settings}
use Rattle.watch_play.specs.event_def.Book.{BookView}
use Rattle.watch_play.specs.step_script.declared.act.Act.{Act}
use Rattle.watch_play.specs.declared.stop.StoryStop.{StoryStop}
use Rattle.watch_play.specs.declared.stop.StoryStop.TheVariants as stops
use Rattle.watch_play.specs.Courses.{course_of, course_word, first_stage}
use Rattle.watch_play.specs.Stories.{begun}
use Rattle.watch_play.specs.Telling.{HasStory, Plan, Tells, TellsOpening}
use Rattle.watch_play.specs.Counted.{counts_of, last_counts}
use Rattle.watch_play.specs.Texts.{opening_lines}
use Rattle.watch_play.proofs.Proved.{text_begins}
use Rattle.watch_play.specs.watch_text.declared.head.CourseWord.{CourseWord}
use Rattle.watch_play.specs.watch_text.declared.head.CourseWord.TheVariants as courses

-- a word's course has that word
pub same_word : (course : CourseWord) (settings : Settings) (script : List Act)
    → course_word (course_of course settings script) ≡ course
same_word courses.Steps settings script = refl
same_word courses.Least settings script = refl
same_word (courses.Lockstep rounds seed starved) settings script = refl

module _ (N : Type 0) (plan : Plan) (opening : BookView) where
  -- the story before the first act
  abbrev nothing_yet : (book : BookView) → book ≡ opening → HasStory {N = N} plan opening [] book
  nothing_yet book same = record {
    count = 0;
    stage = first_stage plan.course (length opening.view.history);
    last = begun opening;
    goes = (refl, refl, refl);
    book_is = same;
  }

  -- the counts of it
  abbrev counts_at_end : List ℕ
  counts_at_end = last_counts plan.telling
      (counts_of {N = N} plan.image plan.course opening 0 (first_stage plan.course (length opening.view.history)) []
      (begun opening) (refl, refl, refl)) (begun opening)

  -- the lines before the first act weren't all told
  pub opening_stopped : (book : BookView) (before after : SinkState) (stop : StoryStop) → book ≡ opening
      → TellsOpening plan opening before after (Err stop) → Tells N plan opening book before after (Err stop)
  opening_stopped book before after stops.Memory same told =
      record { moments = []; story = nothing_yet book same; took = inl (refl, told) }
  opening_stopped book before after stops.Sink same told = record {
    moments = [];
    story = nothing_yet book same;
    took =
        subst (TakesFront before after) (ap (λ text. text ++ counts_at_end) (sym (text_begins N plan opening)))
        (TakesFront-more before after
        (opening_lines plan.course plan.settings plan.image opening.view plan.telling) counts_at_end told.0);
    rose = told.1;
  }
