-- How many rounds in a row are starved.
use Rattle.std.proofs.Common.{◌≡◌, ◌≢◌, ◌==◌, ◌&&◌, ◌≤◌, ◌<◌, ◌+◌, ℕ, zero, suc, Bool, true, false, List, length}
use Rattle.std.proofs.Common.{refl, sym, ap, subst, ◌∙◌, arith, eq-eqb}
use Rattle.std.specs.Prelude.{if◌then◌else◌, not}
use Rattle.std.proofs.lemmas.Bool.{cond_both, eqb-false, eqb-true, false_from_ne_true}
use Rattle.guest_image.specs.ImageValue.{ImageValue}
use Rattle.watch_counts.specs.spec_state.declared.settings.Settings.{Settings}
use Rattle.watch_counts.specs.event_def.Book.{BookView}
use Rattle.watch_counts.specs.step_script.Playing.{PlayState}
use Rattle.watch_counts.specs.watch_text.Moments.{Moment}
use Rattle.watch_play.specs.Courses.{OfRounds, Stage, at_forced, first_stage, following, is_starved, stage_after}
use Rattle.watch_play.specs.Courses.{starved_after}
use Rattle.rounds_law.specs.GettingOn.{RoundsDispatch, ends_round, waited}
use Rattle.watch_play.specs.Stories.{StoryLeads, commits_of}
use Rattle.watch_play.proofs.Stages.{by_stage, few_starved}

module _ (most : ℕ) (some : 1 ≤ most) where
  -- as many rounds waited as are starved, or as many as there may be where the least task is advanced
  record Counts (waits : ℕ) (stage : Stage) : Type 0 where
    few : stage.starved < most
    same : waits ≡ (if stage.forced then most else stage.starved)

  -- how many waited behind an act
  abbrev behind : (at stage : Stage) (commits : ℕ) (waits : Bool) → ℕ → ℕ
  behind at stage commits waits before =
      if ends_round at stage then (if is_starved at commits waits then before + 1 else 0) else before

  in_round : (at stage : Stage) (commits : ℕ) (waits : Bool) (before : ℕ) → stage.round ≡ at.round
      → behind at stage commits waits before ≡ before
  in_round at stage commits waits before same =
      ap (λ (b : Bool). if not b then (if is_starved at commits waits then before + 1 else 0) else before)
      (eq-eqb stage.round at.round same)

  at_end : (at stage : Stage) (commits : ℕ) (waits : Bool) (before : ℕ) → stage.round ≡ at.round + 1
      → behind at stage commits waits before ≡ (if is_starved at commits waits then before + 1 else 0)
  at_end at stage commits waits before more =
      ap (λ (b : Bool). if not b then (if is_starved at commits waits then before + 1 else 0) else before)
      (false_from_ne_true (stage.round == at.round)
      (λ same. let is = eqb-true stage.round at.round same in absurd (omega (arith, is, more))))

  module _ (seed : ℕ) (at : Stage) (commits : ℕ) (waits : Bool) (before : ℕ) (was : Counts before at) where
    abbrev Goes : Stage → Type 0
    Goes stage = Counts (behind at stage commits waits before) stage

    going : at.forced ≡ false → before ≡ at.starved
    going n = was.same ∙ ap (λ (b : Bool). if b then most else at.starved) n

    ends_so : at.forced ≡ false
        → (if is_starved at commits waits then before + 1 else 0) ≡ starved_after at commits waits
    ends_so n = ap (λ k. if is_starved at commits waits then k + 1 else 0) (going n)

    not_waiting : waits ≡ false → (if is_starved at commits waits then before + 1 else 0) ≡ 0
    not_waiting none = by_begun (commits == at.begun)
      where
        by_begun : (b : Bool) → (if b && waits then before + 1 else 0) ≡ 0
        by_begun true = ap (λ (w : Bool). if w then before + 1 else 0) none
        by_begun false = refl

    counts_on : Goes (stage_after seed most at commits waits)
    counts_on =
        let few = was.few in
        by_stage Goes seed most at commits waits
        (λ f w. record { few = few; same = in_round at at commits waits before refl ∙ was.same })
        (λ f w. record {
          few = some;
          same = at_end at (following seed at commits 0) commits waits before refl ∙ not_waiting w;
        })
        (λ n l s. record {
          few = some;
          same = at_end at (at_forced at.order (at.round + 1) commits) commits waits before refl
              ∙ (ends_so n ∙ eqb-true (starved_after at commits waits) most s);
        })
        (λ n l s.
        let apart : starved_after at commits waits ≢ most = eqb-false (starved_after at commits waits) most s in
        let bound = few_starved at commits waits in
        record {
          few = omega (arith, apart, bound, few);
          same = at_end at (following seed at commits (starved_after at commits waits)) commits waits before refl
              ∙ ends_so n;
        })
        (λ n l. record {
          few = few;
          same = in_round at (record at { place = at.place + 1 }) commits waits before refl ∙ was.same;
        })

module _ (N : Type 0) (image : ImageValue) (rounds seed most : ℕ) (settings : Settings) (opening : BookView)
    (some : 1 ≤ most) where
  first_counts : (commits : ℕ) → Counts most some 0 (first_stage (OfRounds rounds seed most settings) commits)
  unfolding first_stage
  first_counts commits = record { few = some; same = refl }

  counts_so : (count : ℕ) (stage : Stage) (moments : List (Moment N)) (last : PlayState)
      (leads : StoryLeads image (OfRounds rounds seed most settings) opening count stage moments last)
      → Counts most some (waited image (OfRounds rounds seed most settings) opening count stage moments last leads)
      stage
  counts_so zero stage moments last leads =
      subst (Counts most some 0) (sym leads.2) (first_counts (length opening.view.history))
  counts_so (suc n) stage moments last leads =
      let before = waited image (OfRounds rounds seed most settings) opening n leads.2 leads.0 leads.1 leads.3 in
      subst (λ s. Counts most some (behind most some leads.2 s (commits_of last) leads.5.waits before) s)
      (sym leads.5.stage_is)
      (counts_on most some seed leads.2 (commits_of last) leads.5.waits before
      (counts_so n leads.2 leads.0 leads.1 leads.3))

pub rounds_dispatch : (N : Type 0) → RoundsDispatch N
rounds_dispatch N image rounds seed most settings opening count stage moments last leads some =
    let counted = counts_so N image rounds seed most settings opening some count stage moments last leads in
    let few = counted.few in
    subst (λ n. n ≤ most) (sym counted.same)
    (cond_both stage.forced most stage.starved (λ n. n ≤ most) (λ f. omega arith) (λ g. omega (arith, few)))
