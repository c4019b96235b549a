-- From one stage of a course to the next.
use Rattle.std.proofs.Common.{◌≡◌, ◌<◌, ◌≤◌, ◌+◌, ◌*◌, ◌/◌, ◌==◌, ◌^◌, ℕ, zero, suc, Bool}
use Rattle.std.proofs.Common.{true, false, length, All, refl, sym, ap}
use Rattle.std.proofs.Common.{subst, ◌∙◌, arith, Some, [], List, Result, Ok, Err}
use Rattle.std.specs.Prelude.{OnOk, if◌then◌else◌, slice_get}
use Rattle.std.proofs.lemmas.Bool.{cond_both}
use Rattle.std.proofs.lemmas.List.Edits.{length-swap}
use Rattle.std.proofs.lemmas.Option.{get_or_from_slice_get, slice_get_within}
use Rattle.watch_counts.specs.spec_state.declared.settings.Settings.{Settings}
use Rattle.watch_counts.specs.spec_state.Settings.{IsValid}
use Rattle.watch_counts.specs.spec_state.View.{View}
use Rattle.watch_counts.specs.step_script.declared.act.Act.{Act}
use Rattle.watch_counts.specs.step_script.declared.act.Act.TheVariants as acts
use Rattle.watch_counts.specs.step_script.Ranges.{ActIsInRange}
use Rattle.watch_counts.specs.watch_text.declared.head.CourseWord.{CourseWord}
use Rattle.watch_counts.specs.watch_text.declared.head.CourseWord.TheVariants as courses
use Rattle.watch_play.specs.Courses.{Course, OfLeast, OfRounds, OfScript, Order, Stage, act_of, at_forced, first_stage}
use Rattle.watch_play.specs.Courses.{following, is_starved, next_draw, next_order, next_round}
use Rattle.watch_play.specs.Courses.{next_stage, shuffled, stage_after}
use Rattle.watch_play.specs.Courses.{course_of, starved_after, round_acts, with_drawn}
use Rattle.watch_play.specs.Leaving.{IsWithin}
use Rattle.watch_play.specs.Staged.{AreWithin, IsSmall}
use Rattle.watch_play.specs.Stories.{NextStage}
use Rattle.watch_play.proofs.Rounds.{few_in_round, next_in, round_inside}

-- ---- the cases of a round

module _ (P : Stage → Type 0) (seed most : ℕ) (at : Stage) (commits : ℕ) (waits : Bool) where
  -- what holds of each stage that may come next holds of the one that does
  pub by_stage : (at.forced ≡ true → waits ≡ true → P at)
      → (at.forced ≡ true → waits ≡ false → P (following seed at commits 0))
      → (at.forced ≡ false → (at.place + 1 == length at.order.acts) ≡ true
      → (starved_after at commits waits == most) ≡ true → P (at_forced at.order (at.round + 1) commits))
      → (at.forced ≡ false → (at.place + 1 == length at.order.acts) ≡ true
      → (starved_after at commits waits == most) ≡ false
      → P (following seed at commits (starved_after at commits waits)))
      → (at.forced ≡ false → (at.place + 1 == length at.order.acts) ≡ false → P (record at { place = at.place + 1 }))
      → P (stage_after seed most at commits waits)
  by_stage stays leaves forces follows goes =
      cond_both at.forced (if waits then at else following seed at commits 0)
      (if at.place + 1 == length at.order.acts then next_round seed most at commits waits
      else record at { place = at.place + 1 }) P
      (λ forced. cond_both waits at (following seed at commits 0) P (stays forced) (leaves forced))
      (λ going. cond_both (at.place + 1 == length at.order.acts) (next_round seed most at commits waits)
      (record at { place = at.place + 1 }) P
      (λ last. cond_both (starved_after at commits waits == most) (at_forced at.order (at.round + 1) commits)
      (following seed at commits (starved_after at commits waits)) P (forces going last) (follows going last))
      (goes going))

-- no more than one more
pub few_starved : (at : Stage) (commits : ℕ) (waits : Bool) → starved_after at commits waits ≤ at.starved + 1
few_starved at commits waits =
    cond_both (is_starved at commits waits) (at.starved + 1) 0 (λ n. n ≤ at.starved + 1) (λ t. omega arith)
    (λ f. omega arith)

-- what holds holds where a call went well
pub on_ok : {T E P : Type 0} (r : Result T E) → P → OnOk r P
on_ok (Ok value) holds = holds
on_ok (Err error) holds = tt

-- ---- the acts of a stage

shuffled_length : (n : ℕ) (order : Order) → length (shuffled n order).acts ≡ length order.acts
shuffled_length zero order = refl
shuffled_length (suc last) order =
    shuffled_length last (with_drawn last order)
    ∙ length-swap order.acts last (next_draw order.drawn * (last + 1) / 2 ^ 32)

next_length : (seed : ℕ) (order : Order) → length (next_order seed order).acts ≡ length order.acts
unfolding next_order
next_length seed order =
    cond_both (seed == 0) order (shuffled (length order.acts) order) (λ (o : Order). length o.acts ≡ length order.acts)
    (λ none. refl) (λ some. shuffled_length (length order.acts) order)

-- an act of a stage stands within a machine where the stage's acts do
pub act_within : (tiles cores : ℕ) (stage : Stage) (act : Act) → AreWithin tiles cores stage
    → act_of stage ≡ Some act → ActIsInRange tiles cores act
act_within tiles cores stage act inside = by_forced stage.forced
  where
    by_forced : (forced : Bool)
        → (if forced then Some acts.Advance else slice_get stage.order.acts stage.place) ≡ Some act
        → ActIsInRange tiles cores act
    by_forced true is = let same : acts.Advance ≡ act = cc (is) in subst (ActIsInRange tiles cores) same tt
    by_forced false is =
        subst (ActIsInRange tiles cores) (get_or_from_slice_get stage.order.acts stage.place act act is)
        (inside stage.place act (slice_get_within stage.order.acts stage.place act is))

none_within : (tiles cores : ℕ) → All (ActIsInRange tiles cores) []
none_within tiles cores k d low = absurd (omega (arith, low))

-- those of a course's first stage do
pub first_within : (course : Course) (settings : Settings) (commits : ℕ) → IsWithin course settings
    → AreWithin settings.tiles settings.cores (first_stage course commits)
unfolding first_stage
first_within (OfScript script) settings commits within = within
first_within OfLeast settings commits within = none_within settings.tiles settings.cores
first_within (OfRounds rounds seed most own) settings commits within =
    subst (λ s. AreWithin settings.tiles settings.cores (first_stage (OfRounds rounds seed most s) commits))
    (sym within)
    (next_in (ActIsInRange settings.tiles settings.cores) seed
    (record { drawn = seed; acts = round_acts settings.tiles settings.cores })
    (round_inside settings.tiles settings.cores))

-- the course of a word stands within its settings, if its script does
pub within_of : (word : CourseWord) (settings : Settings) (script : List Act)
    → All (ActIsInRange settings.tiles settings.cores) script → IsWithin (course_of word settings script) settings
within_of courses.Steps settings script within = within
within_of courses.Least settings script within = tt
within_of (courses.Lockstep rounds seed most) settings script within = refl

-- and the numbers of its first stage are small
pub first_small : (word : CourseWord) (settings : Settings) (script : List Act) (commits : ℕ) → IsValid settings
    → length script < 2 ^ 32 → IsSmall 0 (first_stage (course_of word settings script) commits)
unfolding first_stage
first_small courses.Steps settings script commits valid few =
    record { few = few; round = omega arith; place = omega arith; starved = omega arith }
first_small courses.Least settings script commits valid few =
    record { few = omega arith; round = omega arith; place = omega arith; starved = omega arith }
first_small (courses.Lockstep rounds seed most) settings script commits valid few =
    let same = next_length seed (record { drawn = seed; acts = round_acts settings.tiles settings.cores }) in
    let small = few_in_round settings (round_acts settings.tiles settings.cores) valid refl in
    record { few = omega (arith, same, small); round = omega arith; place = omega arith; starved = omega arith }

module _ (course : Course) (at : Stage) (view : View) (stage : Stage) (next : NextStage course at view stage) where
  abbrev commits : ℕ
  commits = length view.history

  -- those of the next stage do, where those of this one do
  pub next_within : (tiles cores : ℕ) → AreWithin tiles cores at → AreWithin tiles cores stage
  next_within tiles cores inside = subst (AreWithin tiles cores) (sym next.stage_is) (by_course course)
    where
      by_course : (c : Course) → AreWithin tiles cores (next_stage c at commits next.waits)
      by_course (OfScript script) = inside
      by_course OfLeast = inside
      by_course (OfRounds rounds seed most settings) =
          let turned = next_in (ActIsInRange tiles cores) seed at.order inside in
          by_stage (AreWithin tiles cores) seed most at commits next.waits (λ f w. inside) (λ f w. turned)
          (λ n l s. inside) (λ n l s. turned) (λ n l. inside)

  -- its numbers are small, where those of this one are
  pub next_small : (number : ℕ) → IsSmall number at → IsSmall (number + 1) stage
  next_small number small = subst (IsSmall (number + 1)) (sym next.stage_is) (by_course course)
    where
      round : at.round ≤ number
      round = small.round

      place : at.place ≤ number
      place = small.place

      starved : at.starved ≤ number
      starved = small.starved

      here : IsSmall (number + 1) at
      here = record {
        few = small.few;
        round = omega (arith, round);
        place = omega (arith, place);
        starved = omega (arith, starved);
      }

      there : IsSmall (number + 1) (record at { place = at.place + 1 })
      there = record {
        few = small.few;
        round = omega (arith, round);
        place = omega (arith, place);
        starved = omega (arith, starved);
      }

      turned : (seed n : ℕ) → n ≤ at.starved + 1 → IsSmall (number + 1) (following seed at commits n)
      turned seed n few = record {
        few = (let same = next_length seed at.order in let was = small.few in omega (arith, same, was));
        round = omega (arith, round);
        place = omega arith;
        starved = omega (arith, starved, few);
      }

      by_course : (c : Course) → IsSmall (number + 1) (next_stage c at commits next.waits)
      by_course (OfScript script) = there
      by_course OfLeast = here
      by_course (OfRounds rounds seed most settings) =
          by_stage (IsSmall (number + 1)) seed most at commits next.waits (λ f w. here)
          (λ f w. turned seed 0 (omega arith))
          (λ n l s.
          record { few = small.few; round = omega (arith, round); place = omega arith; starved = omega arith })
          (λ n l s. turned seed (starved_after at commits next.waits) (few_starved at commits next.waits))
          (λ n l. there)
