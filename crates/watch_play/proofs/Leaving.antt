-- Any story stays sound, and the story of the least task is the run of its events.
use Rattle.std.proofs.Common.{◌≡◌, ◌+◌, ℕ, zero, suc, List, [], ◌∷◌, length, Some, false}
use Rattle.std.proofs.Common.{refl, sym, ap, subst, ◌∙◌, arith}
use Rattle.std.proofs.lemmas.List.{length-append}
use Rattle.std.specs.List.{enumerate_from}
use Rattle.guest_image.specs.declared.image.ImageTask.{ImageTask}
use Rattle.guest_image.specs.declared.image.Kind.{Kind}
use Rattle.guest_image.specs.ImageValue.{ImageValue}
use Rattle.watch_counts.specs.spec_state.declared.settings.Settings.{Settings}
use Rattle.watch_counts.specs.spec_law.Sound.{Sound}
use Rattle.watch_counts.specs.event_def.Advancing.{Advances, AdvancesBy}
use Rattle.watch_counts.specs.event_def.Book.{BookView}
use Rattle.watch_counts.specs.event_def.End.{IsOver}
use Rattle.watch_counts.specs.event_def.Opening.{PlacesAll}
use Rattle.watch_counts.proofs.Below.event_law.Proved.{opening_is_sound}
use Rattle.watch_counts.specs.step_script.declared.act.Act.{Act}
use Rattle.watch_counts.specs.step_script.declared.act.Act.TheVariants as acts
use Rattle.watch_counts.specs.step_script.Asking.{AsksAdvance, AsksFor, ComesOf}
use Rattle.watch_counts.specs.step_script.Asking as asking
use Rattle.watch_counts.specs.step_script.Playing.{PlayState}
use Rattle.watch_counts.specs.watch_text.Moments.{IsMoment, Moment}
use Rattle.watch_counts.specs.step_script.Ranges.{ActIsInRange}
use Rattle.watch_play.specs.Courses.{Course, OfLeast, Stage, act_of, at_forced, first_stage}
use Rattle.watch_play.specs.Leaving.{IsSoundBook, IsWithin, LeastStoryAdvances, LeastStoryIsRun, StoryStaysSound}
use Rattle.watch_play.specs.Stories.{ActComes, Makes, Passes, StoryLeads}
use Rattle.watch_play.proofs.Does.{came_between}
use Rattle.watch_play.proofs.Forced.{made_of}
use Rattle.watch_play.proofs.Plays.{story_goes_well}
use Rattle.watch_play.proofs.SoundPlays.{IsSoundPlay}
use Rattle.watch_play.proofs.Stages.{act_within}

-- ---- any course

-- what a good play has, under the settings of its opening
book_of_play : (image : ImageValue) (settings : Settings) (play : PlayState) → IsSoundPlay image settings play
    → IsSoundBook image settings play.book
book_of_play image settings play good =
    record { sound = good.sound; going = good.going; settings_are = good.settings_are }

-- the stage of the least task's course, and its act
module _ (N : Type 0) (image : ImageValue) (opening : BookView) where
  least_stage : (count : ℕ) (stage : Stage) (moments : List (Moment N)) (last : PlayState)
      → StoryLeads image OfLeast opening count stage moments last
      → stage ≡ at_forced (record { drawn = 0; acts = [] }) 0 (length opening.view.history)
  unfolding first_stage
  least_stage zero stage moments last goes = goes.2
  least_stage (suc n) stage moments last goes =
      goes.5.stage_is ∙ least_stage n goes.2 goes.0 goes.1 goes.3

  least_act : (count : ℕ) (stage : Stage) (moments : List (Moment N)) (last : PlayState) (act : Act)
      → StoryLeads image OfLeast opening count stage moments last → act_of stage ≡ Some act → acts.Advance ≡ act
  least_act count stage moments last act goes is =
      let some : Some acts.Advance ≡ Some act =
      sym (ap act_of (least_stage count stage moments last goes)) ∙ is in
      cc (some)

-- a story of a course led here: the play is good, and the next act stands within the settings
pub record ComesWell (image : ImageValue) (course : Course) (settings : Settings) (count : ℕ) (stage : Stage)
    (last : PlayState) : Type 0 where
  pub good : IsSoundPlay image settings last
  pub inside : (act : Act) → act_of stage ≡ Some act
      → ActIsInRange settings.tiles settings.cores act

module _ (N : Type 0) (image : ImageValue) (opening : BookView) (sound : Sound image opening.view)
    (going : opening.stopped ≡ false) where
  pub comes_well : (course : Course) (count : ℕ) (stage : Stage) (moments : List (Moment N)) (last : PlayState)
      → IsWithin course opening.view.settings → StoryLeads image course opening count stage moments last
      → ComesWell image course opening.view.settings count stage last
  comes_well course count stage moments last within leads =
      let plays = story_goes_well N image course opening sound going within count stage moments last leads in record {
        good = plays.good;
        inside = λ act is. act_within opening.view.settings.tiles opening.view.settings.cores stage act plays.fits is;
      }

pub story_stays_sound : (N : Type 0) → StoryStaysSound N
story_stays_sound N image course settings opening count stage moments last good within leads =
    subst (λ s. IsSoundBook image s last.book) good.settings_are
    (book_of_play image opening.view.settings last
    (comes_well N image opening good.sound good.going course count stage moments last
    (subst (IsWithin course) (sym good.settings_are) within) leads).good)

-- ---- the course of the least task

module _ (N : Type 0) (image : ImageValue) (opening : BookView) (sound : Sound image opening.view)
    (going : opening.stopped ≡ false) where
  abbrev AdvancesSo : List (Moment N) → PlayState → Type 0
  AdvancesSo moments last = AdvancesBy N image (length moments) opening last.book

  -- a moment of it is the event for the least task
  by_asks : (old last : PlayState) (m : Moment N) → Sound image old.book.view → (IsOver old.book.view → ⊥)
      → IsMoment image m old last → AsksAdvance image old m.asks last.held
      → Advances N image old.book m.aborted last.book
  by_asks old last m well on is (asking.advance_next e next hands) =
      let came = subst (λ a. ComesOf a m.reply m.aborted old.book last.book) hands.asks_is
      (came_between N image m old last is) in record {
        event = e;
        next = next;
        happens = made_of N image old.book last.book m.aborted well e next m.reply came.0 came.1;
      }
  by_asks old last m well on is (asking.advance_ended over says) = absurd (on over)

  one_moment : (n : ℕ) (at : Stage) (front moments : List (Moment N)) (old last : PlayState)
      → StoryLeads image OfLeast opening n at front old → Sound image old.book.view → AdvancesSo front old → ActComes image OfLeast n at front old moments last
      → AdvancesSo moments last
  one_moment n at front moments old last leads well before (Passes act is unasked same stays) =
      absurd (unasked tt)
  one_moment n at front moments old last leads well before (Makes m is asked at_is number_is moment more) =
      let one_more : length moments ≡ length front + 1 = ap length more ∙ simp length-append refl in
      let longer : length moments ≡ suc (length front) = omega (arith, one_more) in
      let advance = sym (least_act N image opening n at front old m.act leads is.0) in
      let event = by_asks old last m well is.1 moment
      (subst (λ a. AsksFor image a old m.asks last.held) advance moment.asked) in
      subst (λ k. AdvancesBy N image k opening last.book) (sym longer) (old.book, m.aborted, before, event)

  advances_so : (count : ℕ) (stage : Stage) (moments : List (Moment N)) (last : PlayState)
      → StoryLeads image OfLeast opening count stage moments last → AdvancesSo moments last
  advances_so zero stage moments last leads =
      subst (λ l. AdvancesSo l last) (sym leads.0)
      (ap (λ (p : PlayState). p.book) (sym leads.1))
  advances_so (suc n) stage moments last leads =
      one_moment n leads.2 leads.0 moments leads.1 last leads.3
      (comes_well N image opening sound going OfLeast n leads.2 leads.0 leads.1 tt leads.3).good.sound
      (advances_so n leads.2 leads.0 leads.1 leads.3) leads.4

pub least_story_advances : (N : Type 0) → LeastStoryAdvances N
least_story_advances N image opening count stage moments last sound going leads =
    advances_so N image opening sound going count stage moments last leads

-- placing the image's tasks stops no book
pub placed_goes_on : (kind : Kind) (tasks : List (ℕ × ImageTask)) (old new : BookView) → PlacesAll kind tasks old new
    → new.stopped ≡ old.stopped
placed_goes_on kind [] old new placed = ap (λ (b : BookView). b.stopped) (sym placed)
placed_goes_on kind (e ∷ es) old new placed =
    placed_goes_on kind es placed.0 new placed.2 ∙ ap (λ (b : BookView). b.stopped) placed.1.same

pub least_story_is_run : (N : Type 0) → LeastStoryIsRun N
least_story_is_run N image settings placers taps opening count stage moments last run fits valid opens leads left
    ended = record {
      opening = opening;
      is_opening = opens;
      last = last.book;
      advances =
          least_story_advances N image opening count stage moments last
          (opening_is_sound image settings placers taps opening fits valid opens)
          (placed_goes_on image.kind (enumerate_from 0 image.tasks) _ opening opens.placed) leads;
      leaves = left;
      end_is = ended;
    }
