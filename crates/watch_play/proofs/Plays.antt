-- The acts that a story tells are a script that is played so.
use Rattle.std.proofs.Common.{◌≡◌, ◌+◌, ℕ, zero, suc, List, [], ◌∷◌, ◌++◌, length, map, take, Some, add-one}
use Rattle.std.proofs.Common.{refl, sym, ap, subst, ◌∙◌, arith, false}
use Rattle.std.proofs.lemmas.List.{take_all}
use Rattle.guest_image.specs.ImageValue.{ImageValue}
use Rattle.watch_counts.specs.spec_law.Sound.{Sound}
use Rattle.watch_counts.specs.event_def.Book.{BookView}
use Rattle.watch_counts.specs.step_script.declared.act.Act.{Act}
use Rattle.watch_counts.specs.step_script.Playing.{DoesAll, PlayState}
use Rattle.watch_counts.proofs.Below.step_script.Proved.{does_more}
use Rattle.watch_counts.specs.watch_text.Moments.{Moment}
use Rattle.watch_play.specs.Courses.{Course, OfRounds, OfScript, Stage, act_of, at_round, first_stage}
use Rattle.watch_play.specs.Leaving.{IsWithin}
use Rattle.watch_play.specs.Lockstep.{LockstepPlays}
use Rattle.watch_play.specs.Replies.{StoryPlays, said_by}
use Rattle.watch_play.specs.Staged.{AreWithin}
use Rattle.watch_play.specs.Stories.{ActComes, StoryLeads, Makes, NextStage, Passes, begun}
use Rattle.watch_play.proofs.Does.{came_between, moment_does}
use Rattle.watch_play.proofs.SoundPlays.{IsSoundPlay, stays_good}
use Rattle.watch_play.proofs.Stages.{act_within, first_within, next_within}
use Rattle.fractal_vt.proofs.Proved.{take_next}

-- ---- lists

map_pushed : {X Y : Type 0} (f : X → Y) (xs : List X) (x : X) → map f (xs ++ x ∷ []) ≡ map f xs ++ f x ∷ []
map_pushed f [] x = refl
map_pushed f (y ∷ xs) x = ap (λ l. f y ∷ l) (map_pushed f xs x)

-- the acts of moments
abbrev pub acts_of : {N : Type 0} → List (Moment N) → List Act
acts_of {N} moments = map (λ (m : Moment N). m.act) moments

-- ---- plays

-- the acts of the moments were played, the play is good, and the acts of the stage stand within its machine
pub record PlaysWell {N : Type 0} (image : ImageValue) (opening : BookView) (stage : Stage) (moments : List (Moment N))
    (last : PlayState) : Type 0 where
  pub does : DoesAll N image (acts_of moments) (begun opening) (map said_by moments) last
  pub good : IsSoundPlay image opening.view.settings last
  pub fits : AreWithin opening.view.settings.tiles opening.view.settings.cores stage

-- a course each of whose acts stands within the settings
module _ (N : Type 0) (image : ImageValue) (course : Course) (opening : BookView) (sound : Sound image opening.view)
    (going : opening.stopped ≡ false) (within : IsWithin course opening.view.settings) where
  abbrev tiles : ℕ
  tiles = opening.view.settings.tiles

  abbrev cores : ℕ
  cores = opening.view.settings.cores

  abbrev PlaysSo : Stage → List (Moment N) → PlayState → Type 0
  PlaysSo stage moments last = PlaysWell image opening stage moments last

  one_act : (n : ℕ) (at stage : Stage) (front moments : List (Moment N)) (old last : PlayState) → PlaysSo at front old
      → ActComes image course n at front old moments last → NextStage course at last.book.view stage
      → PlaysSo stage moments last
  one_act n at stage front moments old last plays (Passes act is unasked same stays) next = record {
    does =
        subst (λ l. DoesAll N image (acts_of l) (begun opening) (map said_by l) last) (sym same)
        (subst (λ p. DoesAll N image (acts_of front) (begun opening) (map said_by front) p) (sym stays) plays.does);
    good = subst (IsSoundPlay image opening.view.settings) (sym stays) plays.good;
    fits = next_within course at last.book.view stage next tiles cores plays.fits;
  }
  one_act n at stage front moments old last plays (Makes m is asked at_is number_is moment more) next =
      let inside = act_within tiles cores at m.act plays.fits is.0 in
      let does = moment_does N image m old last plays.good.sound plays.good.going moment in
      let longer = does_more N image (acts_of front) m.act (begun opening) old last (map said_by front) (said_by m)
      plays.does does in
      let acts : acts_of moments ≡ acts_of front ++ m.act ∷ [] =
      ap acts_of more ∙ map_pushed (λ (x : Moment N). x.act) front m in
      let saids : map said_by moments ≡ map said_by front ++ said_by m ∷ [] =
      ap (map said_by) more ∙ map_pushed said_by front m in record {
        does =
            subst (λ script. DoesAll N image script (begun opening) (map said_by moments) last) (sym acts)
            (subst (λ s. DoesAll N image (acts_of front ++ m.act ∷ []) (begun opening) s last) (sym saids) longer);
        good =
            stays_good N image opening.view.settings old plays.good m.act m.asks m.reply m.aborted last inside
            moment.asked
            (came_between N image m old last moment);
        fits = next_within course at last.book.view stage next tiles cores plays.fits;
      }

  pub story_goes_well : (count : ℕ) (stage : Stage) (moments : List (Moment N)) (last : PlayState)
      → StoryLeads image course opening count stage moments last → PlaysSo stage moments last
  story_goes_well zero stage moments last goes =
      let first = first_stage course (length opening.view.history) in
      subst (λ s. PlaysSo s moments last) (sym goes.2)
      (subst (λ (p : PlayState). PlaysSo first moments p) (sym goes.1)
      (subst (λ (l : List (Moment N)). PlaysSo first l (begun opening)) (sym goes.0)
      (record {
        does = refl;
        good = record { sound = sound; going = going; settings_are = refl; runs = tt };
        fits = first_within course opening.view.settings (length opening.view.history) within;
      })))
  story_goes_well (suc n) stage moments last goes =
      one_act n goes.2 stage goes.0 moments goes.1 last (story_goes_well n goes.2 goes.0 goes.1 goes.3) goes.4 goes.5

-- ---- scripts

module _ (N : Type 0) (image : ImageValue) (script : List Act) (opening : BookView) where
  -- the stage of a script has all of its acts, and the place of the next one
  abbrev stage_at : ℕ → Stage
  stage_at n = record (at_round (record { drawn = 0; acts = script }) 0 (length opening.view.history) 0) { place = n }

  script_stage : (count : ℕ) (stage : Stage) (moments : List (Moment N)) (last : PlayState)
      → StoryLeads image (OfScript script) opening count stage moments last → stage ≡ stage_at count
  unfolding first_stage
  script_stage zero stage moments last goes = goes.2
  script_stage (suc n) stage moments last goes =
      goes.5.stage_is ∙ (ap (λ (s : Stage). record s { place = s.place + 1 })
      (script_stage n goes.2 goes.0 goes.1 goes.3) ∙ ap stage_at (add-one n))

  one_more : (n : ℕ) (at : Stage) (front moments : List (Moment N)) (old last : PlayState) → at ≡ stage_at n
      → acts_of front ≡ take n script → ActComes image (OfScript script) n at front old moments last
      → acts_of moments ≡ take (suc n) script
  one_more n at front moments old last is are (Passes act next unasked same stays) = absurd (unasked tt)
  one_more n at front moments old last is are (Makes m next asked at_is number_is moment more) =
      ap acts_of more
      ∙ (map_pushed (λ (x : Moment N). x.act) front m
      ∙ (ap (λ l. l ++ m.act ∷ []) are
      ∙ sym (take_next script n m.act (subst (λ s. act_of s ≡ Some m.act) is next.0))))

  -- each act of a script is a moment
  acts_are : (count : ℕ) (stage : Stage) (moments : List (Moment N)) (last : PlayState)
      → StoryLeads image (OfScript script) opening count stage moments last → acts_of moments ≡ take count script
  acts_are zero stage moments last goes = ap acts_of goes.0
  acts_are (suc n) stage moments last goes =
      one_more n goes.2 goes.0 moments goes.1 last (script_stage n goes.2 goes.0 goes.1 goes.3)
      (acts_are n goes.2 goes.0 goes.1 goes.3) goes.4

pub story_plays : (N : Type 0) → StoryPlays N
story_plays N image script opening stage moments last sound going inside goes =
    let plays = story_goes_well N image (OfScript script) opening sound going inside (length script) stage moments last
    goes in (
      last.held,
      subst (λ acts. DoesAll N image acts (begun opening) (map said_by moments) last)
          (acts_are N image script opening (length script) stage moments last goes
          ∙ take_all (length script) script (omega arith)) plays.does,
    )

pub lockstep_plays : (N : Type 0) → LockstepPlays N
lockstep_plays N image rounds seed most opening count stage moments last is =
    let plays = story_goes_well N image (OfRounds rounds seed most opening.view.settings) opening is.sound is.going refl
    count stage moments last is.leads in
    (last.held, plays.does)
