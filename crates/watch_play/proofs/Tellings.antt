-- A story that is told act by act.
use Rattle.std.proofs.Common.{◌≡◌, ◌⊎◌, ◌+◌, ◌&&◌, ℕ, suc, List, [], ◌∷◌, ◌++◌, length, Some, Result, Ok, Err}
use Rattle.std.proofs.Common.{inl, inr, refl, sym, ap, subst, ◌∙◌, add-one, append-nil, arith, Bool, true, false}
use Rattle.std.specs.Prelude.{OnOk, if◌then◌else◌}
use Rattle.std.proofs.lemmas.List.{length_push}
use Rattle.std.proofs.KnownBytes.{Appends-nil}
use Rattle.guest_image.specs.ImageValue.{ImageValue}
use Rattle.sim_io.specs.Parts.{SinkTakes, TakesFront, Writes}
use Rattle.sim_io.specs.Streams.{SinkState}
use Rattle.sim_io.proofs.Fronts.{TakesFront-more, TakesFront-then}
use Rattle.sim_io.proofs.Proved.{Wrote, wrote_more}
use Rattle.watch_counts.specs.spec_state.declared.settings.Settings.{Settings}
use Rattle.watch_counts.specs.event_def.Book.{BookView}
use Rattle.watch_counts.specs.step_script.declared.act.Act.{Act}
use Rattle.watch_counts.specs.step_script.Playing.{PlayState}
use Rattle.watch_counts.specs.watch_text.Lines.{line_of}
use Rattle.watch_counts.specs.watch_text.Moments.{Moment}
use Rattle.watch_counts.specs.declared.counts.Counts.{Counts}
use Rattle.watch_counts.specs.Capped.{capped_counts}
use Rattle.watch_counts.specs.Counts.{after_passed, counts_after, counts_at}
use Rattle.watch_counts.specs.Texts.{counts_line}
use Rattle.watch_play.specs.declared.stop.StoryStop.{StoryStop}
use Rattle.watch_play.specs.declared.stop.StoryStop.TheVariants as stops
use Rattle.watch_play.specs.declared.telling.Telling.{Telling}
use Rattle.watch_play.specs.declared.watch.SoTold.{SoTold}
use Rattle.watch_play.specs.Counted.{after_stage, counts_lines, counts_of, is_due_behind, last_counts}
use Rattle.watch_play.specs.Courses.{Course, EndsAt, HasNext, IsAskedBy, Stage, first_stage}
use Rattle.watch_play.specs.Made.{TellsAct}
use Rattle.watch_play.specs.Playing.{IsMomentAt, MakesAct}
use Rattle.watch_play.specs.Stories.{ActComes, Makes, NextStage, Passes, StoryLeads, commits_of}
use Rattle.watch_play.specs.Telling.{ActGoesOn, AllTaken, ComesOn, GoesOn, GoesSoFar, HasCome, HasStory, IsOpened}
use Rattle.watch_play.specs.Telling.{IsToldInPart, MostTaken, Plan, Tells, TellsCourse, TellsText, plan_with, text_with}
use Rattle.watch_play.specs.Texts.{has_counts, has_lines, moment_lines, view_text}
use Rattle.watch_play.proofs.Behind.{more_counts, more_lines}
use Rattle.watch_play.proofs.Lined.{where_lines}
use Rattle.watch_play.proofs.Openings.{text_begins}

-- an act of which no line is told
pub act_untold : (N : Type 0) (image : ImageValue) (telling : Telling) (at : ℕ) (told new_told : SoTold) (act : Act)
    (old new : PlayState) (sink : SinkState) (r : Result (Unit {0}) StoryStop)
    → has_lines telling ≡ false → MakesAct N image telling at told new_told act old new r
    → TellsAct N image telling at told new_told act old new sink sink r
act_untold N image telling at told new_told act old new sink (Ok done) none makes =
    let m = makes.0 in
    let lines = line_of m ++ view_text telling m.number m.new.view m.new.steps in
    let nothing : Writes {E = StoryStop} sink sink (Ok done) [] = record {
      ok = Appends-nil sink.taken;
      err = tt;
      cause = record { later = omega arith; failed = tt };
    } in (
      m,
      makes.1,
      makes.2,
      subst (Writes {E = StoryStop} sink sink (Ok done)) (sym (where_lines telling lines false none)) nothing,
    )
act_untold N image telling at told new_told act old new sink (Err stops.Memory) none makes = (inr makes.1, refl)
act_untold N image telling at told new_told act old new sink (Err stops.Sink) none makes = absurd (cc (makes.0))

-- ---- a story that goes on

module _ (N : Type 0) (plan : Plan) (opening : BookView) (start : SinkState) where
  -- a story of no moment
  pub begins : (told : SoTold) (play : PlayState) (now : SinkState) → told.moments ≡ 0
      → told.counts ≡ capped_counts (counts_at play.book.view) → IsOpened plan opening play start now
      → GoesSoFar N plan opening 0 (first_stage plan.course (commits_of play)) told play start now
  begins told play now none counted opened = (
    [],
    record {
      goes = (refl, opened.play_is, ap (λ p. first_stage plan.course (commits_of p)) opened.play_is);
      told_are = sym none;
      counted = λ are. counted ∙ ap (λ (p : PlayState). capped_counts (counts_at p.book.view)) opened.play_is;
      took = subst (SinkTakes start now) (sym (text_begins N plan opening)) opened.took;
      later = opened.later;
    },
  )

  module _ (count : ℕ) (stage : Stage) (told : SoTold) (old : PlayState) (now : SinkState)
      (so_far : GoesSoFar N plan opening count stage told old start now)
    where
      abbrev moments : List (Moment N)
      moments = so_far.0

      abbrev goes : StoryLeads plan.image plan.course opening count stage moments old
      goes = so_far.1.goes

      abbrev so_counted : Counts
      so_counted = counts_of plan.image plan.course opening count stage moments old goes

      abbrev so_lined : List ℕ
      so_lined = counts_lines plan.telling plan.image plan.course opening count stage moments old goes

      abbrev here : HasStory plan opening moments old.book
      here = record { count = count; stage = stage; last = old; goes = goes; book_is = refl }

      -- the act of this number isn't asked for
      pub passes : (act : Act) → HasNext plan.course stage old.book.view act
          → (IsAskedBy plan.course old.book.view act → ⊥) → (new_told : SoTold) → new_told.moments ≡ told.moments
          → ((c : Counts) → has_counts plan.telling ≡ true → told.counts ≡ capped_counts c
          → new_told.counts ≡ capped_counts (after_passed act c))
          → HasCome N plan opening count stage new_told old start now
      passes act is unasked new_told same counts = record {
        front = moments;
        old = old;
        goes = goes;
        moments = moments;
        comes = Passes act is unasked refl refl;
        told_are = so_far.1.told_are ∙ sym same;
        counted = λ are. counts so_counted are (so_far.1.counted are);
        took = so_far.1.took;
        later = so_far.1.later;
      }

      module _ (act : Act) (is : HasNext plan.course stage old.book.view act)
          (asked : IsAskedBy plan.course old.book.view act) (new : PlayState) (next : Stage)
          (after_it : NextStage plan.course stage new.book.view next) where
        abbrev longer : Moment N → List (Moment N)
        longer m = moments ++ m ∷ []

        -- it is a moment
        abbrev makes : (m : Moment N) → IsMomentAt plan.image (count + 1) (told.moments + 1) act m old new
            → ActComes plan.image plan.course count stage moments old (longer m) new
        makes m comes =
            let act_is = subst (HasNext plan.course stage old.book.view) (sym comes.act_is) is in
            let asked_is = subst (IsAskedBy plan.course old.book.view) (sym comes.act_is) asked in
            let number : m.number ≡ length moments + 1 = comes.number_is ∙ ap (λ n. n + 1) (sym so_far.1.told_are) in
            Makes m act_is asked_is comes.at_is number comes.moment refl

        -- the story with it
        abbrev with_it : (m : Moment N) → IsMomentAt plan.image (count + 1) (told.moments + 1) act m old new
            → HasStory plan opening (longer m) new.book
        with_it m comes = record {
          count = suc count;
          stage = next;
          last = new;
          goes = (moments, old, stage, goes, makes m comes, after_it);
          book_is = refl;
        }

        untold : (after : SinkState) → after ≡ now → ((m : Moment N) × IsMomentAt plan.image (count + 1)
            (told.moments + 1) act m old new) ⊎ (new.book ≡ old.book)
            → IsToldInPart N plan opening new.book start after
        untold after same (inl made) = record {
          moments = longer made.0;
          story = with_it made.0 made.1;
          took =
              inr (MostTaken moments old.book here (omega arith)
              (let pushed = length_push moments made.0 in omega (arith, pushed))
              (subst (λ s. SinkTakes start s (text_with plan opening so_lined moments)) (sym same) so_far.1.took));
        }
        untold after same (inr unmade) = record {
          moments = moments;
          story = record { count = count; stage = stage; last = old; goes = goes; book_is = unmade };
          took =
              inr (AllTaken
              (subst (λ s. SinkTakes start s (text_with plan opening so_lined moments)) (sym same) so_far.1.took));
        }

        -- and told, or not
        pub comes_on : (new_told : SoTold) (after : SinkState) (r : Result (Unit {0}) StoryStop)
            → TellsAct N plan.image plan.telling (count + 1) told new_told act old new now after r → OnOk r (new_told.moments ≡ told.moments + 1)
            → ComesOn N plan opening count stage new_told new start after r
        comes_on new_told after (Ok done) tells number =
            let m = tells.0 in
            let more : Wrote start after (text_with plan opening so_lined moments ++ moment_lines plan.telling m) =
            wrote_more {E = StoryStop} start now after (text_with plan opening so_lined moments)
            (moment_lines plan.telling m) (record { taken = so_far.1.took; later = so_far.1.later }) tells.3 in
            record {
              front = moments;
              old = old;
              goes = goes;
              moments = longer m;
              comes = makes m tells.1;
              told_are = length_push moments m ∙ ap (λ n. n + 1) so_far.1.told_are ∙ sym number;
              counted = λ are. tells.2 are so_counted (so_far.1.counted are);
              took = subst (SinkTakes start after) (sym (more_lines plan opening so_lined moments m)) more.taken;
              later = more.later;
            }
        comes_on new_told after (Err stops.Memory) tells number = untold after tells.1 tells.0
        comes_on new_told after (Err stops.Sink) tells number =
            let m = tells.0 in
            let lines = moment_lines plan.telling m in
            let behind = after_stage stage next (counts_after so_counted m) in
            let line : List ℕ = if is_due_behind plan.telling plan.course (suc count) stage next
            then counts_line behind new.book.view else [] in
            let told_line : List ℕ = if has_counts plan.telling then line else [] in
            let last = last_counts plan.telling behind new in
            let text = text_with plan opening so_lined moments in
            let front : TakesFront start after (((text ++ lines) ++ told_line) ++ last) =
            TakesFront-more start after ((text ++ lines) ++ told_line) last
            (TakesFront-more start after (text ++ lines) told_line
            (TakesFront-then start now after text lines so_far.1.took tells.2.err)) in
            let before = so_far.1.later in
            let rose = tells.2.cause.failed in
            record {
              moments = longer m;
              story = with_it m tells.1;
              took =
                  subst (TakesFront start after)
                  (ap (λ t. t ++ last) (ap (λ t. t ++ told_line) (sym (more_lines plan opening so_lined moments m))
                  ∙ sym (more_counts plan opening so_lined line (longer m)))) front;
              rose = omega (arith, before, rose);
            }

      -- all of the course is told, and the counts at its end, or not
      pub ends : EndsAt plan.course stage old.book.view → (after : SinkState)
          (r : Result (Unit {0}) StoryStop) → TellsText (last_counts plan.telling so_counted old) now after r
          → Tells N plan opening old.book start after r
      ends through after (Ok done) tells =
          let last = last_counts plan.telling so_counted old in
          let more : Wrote start after (text_with plan opening so_lined moments ++ last) =
          wrote_more {E = StoryStop} start now after (text_with plan opening so_lined moments) last
          (record { taken = so_far.1.took; later = so_far.1.later })
          (record { ok = tells.0; err = tt; cause = record { later = tells.1; failed = tt } }) in
          record { moments = moments; story = here; ends = through; took = more.taken; later = more.later }
      ends through after (Err stops.Memory) tells = record {
        moments = moments;
        story = here;
        took =
            inr (AllTaken
            (subst (λ s. SinkTakes start s (text_with plan opening so_lined moments)) (sym tells) so_far.1.took));
      }
      ends through after (Err stops.Sink) tells =
          let last = last_counts plan.telling so_counted old in
          let before = so_far.1.later in
          let rose = tells.1 in
          record {
            moments = moments;
            story = here;
            took =
                TakesFront-then start now after (text_with plan opening so_lined moments) last so_far.1.took tells.0;
            rose = omega (arith, before, rose);
          }

      -- memory runs out between two acts
      pub wants : IsToldInPart N plan opening old.book start now
      wants = record { moments = moments; story = here; took = inr (AllTaken so_far.1.took) }

-- ---- a course of which whatever opening was told

-- so many acts of the course led here, to this stage
abbrev pub CourseGoes : (N : Type 0) → ImageValue → Telling → Course → (first : PlayState) → SinkState
    → (count : ℕ) → Stage → (told : SoTold) → PlayState → SinkState → Type 0
CourseGoes N image telling course first began count stage told play now =
    (settings : Settings) (opening : BookView) (start : SinkState)
    → IsOpened (plan_with image telling course settings) opening first start began
    → GoesSoFar N (plan_with image telling course settings) opening count stage told play start now

-- and so the course is told as it came out, whatever plan has these parts
pub course_told : (N : Type 0) (image : ImageValue) (telling : Telling) (course : Course) (first : PlayState)
    (began : SinkState) (book : BookView) (after : SinkState) (r : Result (Unit {0}) StoryStop)
    → ((settings : Settings) (opening : BookView) (start : SinkState)
    → IsOpened (plan_with image telling course settings) opening first start began
    → Tells N (plan_with image telling course settings) opening book start after r)
    → TellsCourse N image telling course first book began after r
course_told N image telling course first began book after r tells plan opening before image_is telling_is course_is
    opened =
    let same : plan_with image telling course plan.settings ≡ plan = (λ i. record {
      course = sym course_is i;
      settings = plan.settings;
      image = sym image_is i;
      telling = sym telling_is i;
    }) in
    subst (λ p. Tells N p opening book before after r) same
    (tells plan.settings opening before
    (subst (λ p. IsOpened p opening first before began) (sym same) opened))

module _ (N : Type 0) (image : ImageValue) (telling : Telling) (course : Course) (first : PlayState)
    (began : SinkState) (number : ℕ) (stage : Stage) (told : SoTold) (old : PlayState) (now : SinkState)
    (so_far : CourseGoes N image telling course first began number stage told old now) where
  -- the course ends, and so its counts are told
  pub course_ends : EndsAt course stage old.book.view → (after : SinkState) (r : Result (Unit {0}) StoryStop)
      → ((c : Counts) → (has_counts telling ≡ true → told.counts ≡ capped_counts c)
      → TellsText (last_counts telling c old) now after r)
      → TellsCourse N image telling course first old.book began after r
  course_ends at_end after r tells =
      course_told N image telling course first began old.book after r (λ settings opening start opened.
      let goes = so_far settings opening start opened in
      ends N (plan_with image telling course settings) opening start number stage told old now goes at_end after r
      (tells _ goes.1.counted))

  -- memory runs out between two acts
  pub course_wants : TellsCourse N image telling course first old.book began now (Err stops.Memory)
  course_wants =
      course_told N image telling course first began old.book now (Err stops.Memory) (λ settings opening start opened.
      wants N (plan_with image telling course settings) opening start number stage told old now
      (so_far settings opening start opened))

  module _ (next : Stage) (new_told : SoTold) (new : PlayState) (after : SinkState) (r : Result (Unit {0}) StoryStop)
      (goes : ActGoesOn N image telling course number stage next told new_told old new now after r) where
    -- the act led on
    pub course_goes_on : r ≡ Ok tt
        → CourseGoes N image telling course first began (number + 1) next new_told new after
    course_goes_on is settings opening start opened =
        subst (GoesOn N (plan_with image telling course settings) opening (number + 1) next new_told new start after) is
        (goes settings opening start (so_far settings opening start opened))

    -- or the story ended there
    pub course_stops : (q : Result (Unit {0}) StoryStop) (stop : StoryStop) → r ≡ Err stop → q ≡ Err stop
        → TellsCourse N image telling course first new.book began after q
    course_stops q stop is told_is =
        course_told N image telling course first began new.book after q (λ settings opening start opened.
        subst (Tells N (plan_with image telling course settings) opening new.book start after) (sym told_is)
        (subst (GoesOn N (plan_with image telling course settings) opening (number + 1) next new_told new start after)
        is (goes settings opening start (so_far settings opening start opened))))

-- before the first act
pub course_begins : (N : Type 0) (image : ImageValue) (telling : Telling) (course : Course) (first : PlayState)
    (began : SinkState) (told : SoTold) → told.moments ≡ 0 → told.counts ≡ capped_counts (counts_at first.book.view)
    → CourseGoes N image telling course first began 0 (first_stage course (commits_of first)) told first began
course_begins N image telling course first began told none counted settings opening start opened =
    begins N (plan_with image telling course settings) opening start told first began none counted opened
