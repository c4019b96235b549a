-- Within a round that began with the least task dispatched.
use Rattle.std.proofs.Common.{ℕ, ◌≡◌, ◌≢◌, ◌⊎◌, ◌+◌, ◌-◌, ◌<◌, ◌≤◌, List, length, Some, None}
use Rattle.std.proofs.Common.{inl, inr, refl, sym, ap, subst}
use Rattle.std.proofs.Common.{◌∙◌, arith, slice_get}
use Rattle.std.proofs.lemmas.Bool.{cases_eq}
use Rattle.std.proofs.lemmas.Option.{slice_get_within}
use Rattle.guest_image.specs.ImageValue.{ImageValue}
use Rattle.watch_counts.specs.spec_state.declared.task.Status.{Status}
use Rattle.watch_counts.specs.spec_state.declared.task.Status.TheVariants.{Finished, Running}
use Rattle.watch_counts.specs.spec_state.declared.task.Task.{Task}
use Rattle.watch_counts.specs.spec_state.Least.{IsHeir}
use Rattle.watch_counts.specs.spec_state.View.{View}
use Rattle.watch_counts.specs.spec_state.task_law.Advance.{Standing}
use Rattle.watch_counts.specs.spec_state.task_law.Advance as standing
use Rattle.watch_counts.specs.spec_law.Sound.{Sound}
use Rattle.watch_counts.specs.event_def.Advancing.{HasRest, StandsSo}
use Rattle.watch_counts.specs.event_def.Book.{BookView}
use Rattle.watch_counts.specs.event_def.End.{IsOver}
use Rattle.watch_counts.specs.step_script.declared.act.Act.{Act}
use Rattle.watch_counts.specs.step_script.Playing.{PlayState}
use Rattle.watch_counts.specs.step_script.Ranges.{ActIsInRange}
use Rattle.watch_counts.specs.watch_text.Moments.{Moment}
use Rattle.watch_counts.proofs.Below.event_law.Falls.Rest.{most_left}
use Rattle.watch_counts.proofs.Below.event_law.Proved.{rest_is_there}
use Rattle.watch_play.specs.Courses.{OfRounds, Stage, act_of}
use Rattle.watch_play.specs.Stories.{ActComes, Makes, Passes, commits_of}
use Rattle.watch_counts.specs.spec_state.declared.settings.Settings.{Settings}
use Rattle.watch_play.proofs.Does.{came_between}
use Rattle.rounds_law.proofs.Heirs.{Still}
use Rattle.rounds_law.proofs.Nearer.{GetsOn, IsNear, Leaves, act_by, comes_nearer, commits_one, has_heir, heir_stands}
use Rattle.rounds_law.proofs.Nearer.{is_over, leaves, left_of, near_by_rest, nothing_new, own, own_act, own_is_asked}
use Rattle.rounds_law.proofs.Nearer.{stands_still}

-- behind so many acts of a round, where so much was left of its way at the beginning: less is left, or its own act is
-- still to come
pub data IsMidway (view : View) (list : List Act) (place left : ℕ) : Type 0 where
  is_nearer : (now : ℕ) → now < left → IsNear view now → IsMidway view list place left
  is_due : (id : ℕ) (heir : IsHeir view (Some id)) → left_of view.settings.budget heir.0 ≤ left → (next : ℕ)
      → place ≤ next → slice_get list next ≡ Some (own_act heir.0) → IsMidway view list place left

-- a run is over or goes on
pub over_or_not : (image : ImageValue) (view : View) → Sound image view → IsOver view ⊎ (IsOver view → ⊥)
over_or_not image view sound = by_standing rest.1.stands rest.1.stands_so
  where
    rest : (left : ℕ) × HasRest view left
    rest = rest_is_there image view sound

    by_standing : (stands : Standing) → StandsSo view stands → IsOver view ⊎ (IsOver view → ⊥)
    by_standing standing.Over over = inl over
    by_standing standing.Finished so = inr so.0
    by_standing (standing.Running used) so = inr so.0
    by_standing standing.Idle so = inr so.0
    by_standing standing.Spilled so = inr so.0

-- at its end less is left
pub near_at_end : (view : View) (list : List Act) (left : ℕ) → IsMidway view list (length list) left
    → (now : ℕ) × (now < left) × IsNear view now
near_at_end view list left (is_nearer now less near) = (now, less, near)
near_at_end view list left (is_due id heir few next low at) =
    let inside = slice_get_within list next (own_act heir.0) at in absurd (omega (arith, low, inside))

module _ (N : Type 0) (image : ImageValue) (rounds seed most : ℕ) (settings : Settings) (n : ℕ) (at : Stage)
    (front moments : List (Moment N)) (old new : PlayState) (sound : Sound image old.book.view)
    (sound' : Sound image new.book.view) (same_settings : new.book.view.settings ≡ old.book.view.settings)
    (inside : (act : Act) → slice_get at.order.acts at.place ≡ Some act
    → ActIsInRange old.book.view.settings.tiles old.book.view.settings.cores act)
    (acts_so : (act : Act) → act_of at ≡ Some act → slice_get at.order.acts at.place ≡ Some act)
    (none : commits_of new ≡ commits_of old) (left : ℕ) (some : 1 ≤ left) where
  abbrev Old : Type 0
  Old = IsMidway old.book.view at.order.acts at.place left

  abbrev New : Type 0
  New = IsMidway new.book.view at.order.acts (at.place + 1) left

  -- an heir that stands as it did has as much left, and its own act is the same
  as_much : (id : ℕ) (heir : IsHeir old.book.view (Some id)) (still : Still old.book.view new.book.view id heir)
      → left_of new.book.view.settings.budget still.is.0 ≡ left_of old.book.view.settings.budget heir.0
  as_much id heir still =
      λ i. most_left (same_settings i).budget (still.status i) (still.core i).used

  own_same : (id : ℕ) (heir : IsHeir old.book.view (Some id)) (still : Still old.book.view new.book.view id heir)
      → own_act still.is.0 ≡ own_act heir.0
  own_same id heir still = λ i. act_by (still.tile i) (still.status i)

  few_left : (IsOver old.book.view → ⊥) → (id : ℕ) (heir : IsHeir old.book.view (Some id))
      → left_of old.book.view.settings.budget heir.0 ≤ old.book.view.settings.budget + 2
  few_left on id heir = elim (heir_stands image old.book.view sound on id heir) [
    | inl runs ↦
        (let is = ap (λ s. most_left old.book.view.settings.budget s heir.0.core.used) runs.1 in omega (arith, is))
    | inr done ↦
        (let is = ap (λ s. most_left old.book.view.settings.budget s heir.0.core.used) done in omega (arith, is))
  ]

  nearer_now : (IsOver old.book.view → ⊥) → (id : ℕ) (heir : IsHeir old.book.view (Some id)) (now bound : ℕ)
      → HasRest new.book.view now → now < left_of old.book.view.settings.budget heir.0
      → left_of old.book.view.settings.budget heir.0 ≤ bound → bound ≤ left → New
  nearer_now on id heir now bound has less few low =
      let most_there = few_left on id heir in
      let same : new.book.view.settings.budget ≡ old.book.view.settings.budget = ap (λ s. s.budget) same_settings in
      is_nearer now (omega (arith, less, few, low))
      (near_by_rest image new.book.view sound' now has (omega (arith, less, most_there, same)))

  -- the play is the same
  kept : new.book ≡ old.book → (now : ℕ) → now < left → IsNear old.book.view now → New
  kept same now less near =
      is_nearer now less (subst (λ (b : BookView). IsNear b.view now) (sym same) near)

  kept_due : new.book ≡ old.book → (id : ℕ) (heir : IsHeir old.book.view (Some id))
      → left_of old.book.view.settings.budget heir.0 ≤ left → (next : ℕ) → at.place + 1 ≤ next
      → slice_get at.order.acts next ≡ Some (own_act heir.0) → New
  kept_due same id heir few next low found =
      subst (λ (b : BookView). IsMidway b.view at.order.acts (at.place + 1) left) (sym same)
      (is_due id heir few next low found)

  by_leaves_near : (IsOver old.book.view → ⊥) → (id : ℕ) (heir : IsHeir old.book.view (Some id)) (now : ℕ)
      → now < left → left_of old.book.view.settings.budget heir.0 ≤ now → Leaves old new id heir → New
  by_leaves_near on id heir now less few (nothing_new same) = kept same now less (has_heir id heir few)
  by_leaves_near on id heir now less few (commits_one one) = absurd (omega (arith, one, none))
  by_leaves_near on id heir now less few (comes_nearer then has fewer) =
      nearer_now on id heir then now has fewer few (omega (arith, less))
  by_leaves_near on id heir now less few (stands_still still) =
      is_nearer now less (has_heir id still.is
      (let same = as_much id heir still in omega (arith, same, few)))

  by_leaves_due : (IsOver old.book.view → ⊥) → (id : ℕ) (heir : IsHeir old.book.view (Some id))
      → left_of old.book.view.settings.budget heir.0 ≤ left → (next : ℕ) → at.place + 1 ≤ next
      → slice_get at.order.acts next ≡ Some (own_act heir.0) → Leaves old new id heir → New
  by_leaves_due on id heir few next low found (nothing_new same) = kept_due same id heir few next low found
  by_leaves_due on id heir few next low found (commits_one one) = absurd (omega (arith, one, none))
  by_leaves_due on id heir few next low found (comes_nearer then has fewer) =
      nearer_now on id heir then left has fewer few (omega arith)
  by_leaves_due on id heir few next low found (stands_still still) =
      is_due id still.is (let same = as_much id heir still in omega (arith, same, few)) next low
      (found ∙ ap Some (sym (own_same id heir still)))

  by_own : (IsOver old.book.view → ⊥) → (id : ℕ) (heir : IsHeir old.book.view (Some id))
      → left_of old.book.view.settings.budget heir.0 ≤ left → GetsOn old new id heir → New
  by_own on id heir few (inl one) = absurd (omega (arith, one, none))
  by_own on id heir few (inr nearer) = nearer_now on id heir nearer.0 left nearer.1 nearer.2 few (omega arith)

  -- its own act is the one of this place, or comes later
  here_or_later : (next : ℕ) → at.place ≤ next → (next ≡ at.place) ⊎ (at.place + 1 ≤ next)
  here_or_later next low = elim (cases_eq next at.place) [
    | inl here ↦ inl here
    | inr other ↦ inr (omega (arith, low, other))
  ]

  own_here : (next : ℕ) (act own_one : Act) → next ≡ at.place → slice_get at.order.acts next ≡ Some own_one
      → act_of at ≡ Some act → act ≡ own_one
  own_here next act own_one here found is =
      let both : Some act ≡ Some own_one =
      sym (acts_so act is) ∙ (ap (slice_get at.order.acts) (sym here) ∙ found) in
      cc (both)

  pub midway_on : Old → ActComes image (OfRounds rounds seed most settings) n at front old moments new → New
  midway_on (is_nearer now less near) (Passes act next unasked same stays) =
      kept (ap (λ (p : PlayState). p.book) stays) now less near
  midway_on (is_nearer now less (is_over over)) (Makes m next asked at_is number_is moment more) =
      absurd (asked.0 over)
  midway_on (is_nearer now less (has_heir id heir few)) (Makes m next asked at_is number_is moment more) =
      by_leaves_near asked.0 id heir now less few
      (leaves N image old new sound sound' asked.0 id heir m.act m.asks new.held m.reply m.aborted asked.1
      (inside m.act (acts_so m.act next.0)) moment.asked (came_between N image m old new moment))
  midway_on (is_due id heir few next_place low found) (Passes act next unasked same stays) =
      elim (over_or_not image old.book.view sound) [
        | inl over ↦ kept (ap (λ (p : PlayState). p.book) stays) 0 (omega (arith, some)) (is_over over)
        | inr on ↦ elim (here_or_later next_place low) [
          | inl here ↦
              absurd (unasked (
                on,
                own_is_asked N image old new sound sound' on id heir act
                    (own_here next_place act (own_act heir.0) here found next.0),
              ))
          | inr later ↦
              kept_due (ap (λ (p : PlayState). p.book) stays) id heir few next_place later found
        ]
      ]
  midway_on (is_due id heir few next_place low found) (Makes m next asked at_is number_is moment more) =
      elim (here_or_later next_place low) [
        | inl here ↦
            by_own asked.0 id heir few
            (own N image old new sound sound' asked.0 id heir m.act m.asks new.held m.reply m.aborted
            (own_here next_place m.act (own_act heir.0) here found next.0) moment.asked
            (came_between N image m old new moment))
        | inr later ↦
            by_leaves_due asked.0 id heir few next_place later found
            (leaves N image old new sound sound' asked.0 id heir m.act m.asks new.held m.reply m.aborted asked.1
            (inside m.act (acts_so m.act next.0)) moment.asked (came_between N image m old new moment))
      ]
