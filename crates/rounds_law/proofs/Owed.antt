-- How many rounds may come yet, before the next commit or the end of the run.
use Rattle.std.proofs.Common.{ℕ, zero, suc, ◌≡◌, ◌≢◌, ◌⊎◌, ◌+◌, ◌-◌, ◌*◌, ◌<◌, ◌≤◌, ◌==◌, ◌&&◌, Bool, true, false, List}
use Rattle.std.proofs.Common.{Some, None, length, inl, inr, refl, sym, ap, subst}
use Rattle.std.proofs.Common.{◌∙◌, arith, le_refl, slice_get, eq-eqb}
use Rattle.std.specs.Prelude.{◌↔◌, IsTrue, if◌then◌else◌}
use Rattle.std.proofs.lemmas.Bool.{cases_eq, eqb-false, eqb-true}
use Rattle.std.proofs.lemmas.Nat.{mul-le}
use Rattle.guest_image.specs.ImageValue.{ImageValue}
use Rattle.watch_counts.specs.spec_state.declared.settings.Settings.{Settings}
use Rattle.watch_counts.specs.spec_state.declared.task.Status.TheVariants.{Idle}
use Rattle.watch_counts.specs.spec_state.Least.{IsHeir}
use Rattle.watch_counts.specs.spec_state.View.{View}
use Rattle.watch_counts.specs.spec_state.task_law.Advance.{Standing, rest_of_way}
use Rattle.watch_counts.specs.spec_state.task_law.Advance as standing
use Rattle.watch_counts.specs.spec_law.Sound.{Sound}
use Rattle.watch_counts.specs.event_def.Advancing.{HasRest, StandsSo}
use Rattle.watch_counts.specs.event_def.Book.{BookView}
use Rattle.watch_counts.specs.event_def.End.{IsOver}
use Rattle.watch_counts.specs.step_script.declared.act.Act.{Act}
use Rattle.watch_counts.specs.step_script.declared.act.Act.TheVariants as acts
use Rattle.watch_counts.specs.step_script.Playing.{PlayState}
use Rattle.watch_counts.specs.step_script.Ranges.{ActIsInRange}
use Rattle.watch_counts.specs.watch_text.Moments.{Moment}
use Rattle.watch_counts.proofs.Below.event_law.Proved.{rest_is_there}
use Rattle.watch_counts.proofs.Below.spec_law.Proved.{contains_get}
use Rattle.watch_play.specs.Courses.{LeastWaits, OfRounds, Order, Stage, act_of, at_forced, first_stage, following}
use Rattle.watch_play.specs.Courses.{is_starved, next_order, round_acts, stage_after, starved_after}
use Rattle.rounds_law.specs.GettingOn.{RoundsGetOn}
use Rattle.watch_play.specs.Lockstep.{IsLockstep}
use Rattle.watch_play.specs.Stories.{ActComes, Makes, NextStage, Passes, StoryLeads, begun, commits_of}
use Rattle.watch_play.proofs.Does.{came_between}
use Rattle.rounds_law.proofs.Commits.{commits_stay}
use Rattle.rounds_law.proofs.Heirs.{busy}
use Rattle.rounds_law.proofs.Midway.{IsMidway, is_due, midway_on, near_at_end}
use Rattle.rounds_law.proofs.Nearer.{IsNear, has_heir, heir_is_there, is_over, left_of, near_by_rest, own_act}
use Rattle.rounds_law.proofs.Orders.{HasOwn, next_has, round_has}
use Rattle.watch_play.proofs.Plays.{story_goes_well}
use Rattle.watch_play.proofs.SoundPlays.{IsSoundPlay}
use Rattle.watch_play.proofs.Stages.{act_within, by_stage, few_starved}
use Rattle.watch_play.proofs.Waiting.{not_waiting, over_not_waiting}

-- no act undoes a commit
act_commits : (N : Type 0) (image : ImageValue) (rounds seed most : ℕ) (settings : Settings) (n : ℕ) (at : Stage)
    (front moments : List (Moment N)) (old last : PlayState)
    → ActComes image (OfRounds rounds seed most settings) n at front old moments last
    → commits_of old ≤ commits_of last
act_commits N image rounds seed most settings n at front moments old last (Passes act next unasked same stays) =
    subst (λ (p : PlayState). commits_of old ≤ commits_of p) (sym stays) (le_refl _)
act_commits N image rounds seed most settings n at front moments old last (Makes m next asked at_is number_is moment
    more) =
    commits_stay N old.book last.book m.aborted m.asks m.reply (came_between N image m old last moment)

module _ (image : ImageValue) (view : View) (sound : Sound image view) where
  -- where the least task doesn't wait, so little is left
  near_unless : (LeastWaits view → ⊥) → IsNear view (view.settings.budget + 2)
  near_unless none = by_standing rest.1.stands rest.1.stands_so rest.1.left_is
    where
      rest : (left : ℕ) × HasRest view left
      rest = rest_is_there image view sound

      by_standing : (stands : Standing) → StandsSo view stands → rest.0 ≡ rest_of_way view.settings.budget stands
          → IsNear view (view.settings.budget + 2)
      by_standing standing.Over over is = is_over over
      by_standing standing.Finished so is = wider (near_by_rest image view sound rest.0 rest.1 (omega (arith, is)))
        where
          wider : IsNear view rest.0 → IsNear view (view.settings.budget + 2)
          wider (is_over over) = is_over over
          wider (has_heir id heir few) = has_heir id heir (omega (arith, few, is))
      by_standing (standing.Running used) so is =
          wider (near_by_rest image view sound rest.0 rest.1 (omega (arith, is)))
        where
          wider : IsNear view rest.0 → IsNear view (view.settings.budget + 2)
          wider (is_over over) = is_over over
          wider (has_heir id heir few) = has_heir id heir (omega (arith, few, is))
      by_standing standing.Idle so is = absurd (none (inl so))
      by_standing standing.Spilled so is = absurd (none (inr so))

  -- and where it is near it doesn't wait
  near_not_waiting : (left : ℕ) → IsNear view left → LeastWaits view → ⊥
  near_not_waiting left (is_over over) waits = over_not_waiting view over waits
  near_not_waiting left (has_heir id heir few) waits =
      not_waiting view id heir.0 heir.1 (busy image view sound id heir) waits

module _ (N : Type 0) (image : ImageValue) (rounds seed most : ℕ) (opening : BookView) (some : 1 ≤ most) where
  abbrev settings : Settings
  settings = opening.view.settings

  abbrev budget : ℕ
  budget = settings.budget

  -- the most rounds up to a commit
  abbrev span : ℕ
  span = most + budget + 3

  abbrev opened : ℕ
  opened = length opening.view.history

  -- so many more rounds than this one may end without a commit
  data Owes (stage : Stage) (play : PlayState) (more : ℕ) : Type 0 where
    owes_nothing : commits_of play ≢ stage.begun → Owes stage play more
    owes_forced : stage.forced ≡ true → more ≡ budget + 2 → Owes stage play more
    owes_wait : stage.forced ≡ false → stage.starved + more ≡ most + budget + 2 → Owes stage play more
    owes_run : stage.forced ≡ false → (left : ℕ) → left ≡ more + 1 → left ≤ budget + 2
        → IsMidway play.book.view stage.order.acts stage.place left → Owes stage play more

  -- the run is over before a round, or the rounds that came and may come are no more than there may be
  data Bounded (stage : Stage) (play : PlayState) : Type 0 where
    ended : IsOver play.book.view → stage.place ≡ 0 → stage.round + span * opened ≤ span * (stage.begun + 1)
        → Bounded stage play
    goes : (more : ℕ) → Owes stage play more → stage.round + span * opened + more + 1 ≤ span * (stage.begun + 1)
        → Bounded stage play

  record KeepsOn (stage : Stage) (play : PlayState) : Type 0 where
    later : stage.begun ≤ commits_of play
    few : stage.starved < most
    has : HasOwn settings.tiles settings.cores stage.order.acts
    bounded : Bounded stage play

  -- a round begins so near to a commit
  starts_near : (stage : Stage) (play : PlayState) (left : ℕ) → Sound image play.book.view
      → play.book.view.settings ≡ settings → stage.forced ≡ false → stage.place ≡ 0
      → HasOwn settings.tiles settings.cores stage.order.acts → IsNear play.book.view left → left ≤ budget + 2
      → stage.round + span * opened + left ≤ span * (stage.begun + 1) → Bounded stage play
  starts_near stage play left sound same going first has (is_over over) most_left bound =
      ended over first (omega (arith, bound))
  starts_near stage play left sound same going first has (has_heir id heir few) most_left bound =
      let is = heir_is_there image play.book.view sound id heir settings.tiles settings.cores stage.order.acts
      (ap (λ (s : Settings). s.tiles) same) (ap (λ (s : Settings). s.cores) same) has.steps has.commit in
      let place = contains_get stage.order.acts (own_act heir.0) is.1 in
      let low = is.0 in
      let own_left = left_of play.book.view.settings.budget heir.0 in
      goes (own_left - 1)
      (owes_run going own_left (omega (arith, low)) (omega (arith, few, most_left))
      (is_due id heir (le_refl own_left) place.0 (omega (arith, first)) place.1))
      (omega (arith, bound, few, low))

  module _ (n : ℕ) (at : Stage) (front moments : List (Moment N)) (old new : PlayState) (waits : Bool)
      (waits_is : IsTrue waits ↔ LeastWaits new.book.view) (good : IsSoundPlay image settings old)
      (good' : IsSoundPlay image settings new)
      (inside : (act : Act) → act_of at ≡ Some act → ActIsInRange settings.tiles settings.cores act)
      (comes : ActComes image (OfRounds rounds seed most settings) n at front old moments new)
      (was : KeepsOn at old) where
    grows : commits_of old ≤ commits_of new
    grows = act_commits N image rounds seed most settings n at front moments old new comes

    later : at.begun ≤ commits_of new
    later = let begun_before = was.later in let more = grows in omega (arith, begun_before, more)

    none_before : commits_of new ≡ at.begun → commits_of old ≡ at.begun
    none_before none = let begun_before = was.later in let more = grows in omega (arith, begun_before, more, none)

    same_settings : new.book.view.settings ≡ old.book.view.settings
    same_settings = good'.settings_are ∙ sym good.settings_are

    act_there : at.forced ≡ false → (act : Act) → act_of at ≡ Some act
        → slice_get at.order.acts at.place ≡ Some act
    act_there going act is =
        sym (ap (λ (b : Bool). if b then Some acts.Advance else slice_get at.order.acts at.place) going) ∙ is

    midway : at.forced ≡ false → commits_of new ≡ at.begun → (left : ℕ) → 1 ≤ left
        → IsMidway old.book.view at.order.acts at.place left
        → IsMidway new.book.view at.order.acts (at.place + 1) left
    midway going none left one before =
        midway_on N image rounds seed most settings n at front moments old new good.sound good'.sound same_settings
        (λ act is. subst (λ (s : Settings). ActIsInRange s.tiles s.cores act) (sym good.settings_are)
        (inside act (ap (λ (b : Bool). if b then Some acts.Advance else slice_get at.order.acts at.place) going ∙ is)))
        (act_there going) (none ∙ sym (none_before none)) left one before comes

    -- a commit more pays for a whole span
    pays : commits_of new ≢ at.begun → span * (at.begun + 1) + span ≤ span * (commits_of new + 1)
    pays other =
        let low = later in
        let less : at.begun + 1 ≤ commits_of new = omega (arith, low, other) in
        let bound = mul-le span (at.begun + 1) span (commits_of new) (le_refl span) less in
        let more : span * (commits_of new + 1) ≡ span * commits_of new + span = omega arith in
        omega (arith, bound, more)

    turned : HasOwn settings.tiles settings.cores (next_order seed at.order).acts
    turned = next_has settings.tiles settings.cores seed at.order was.has

    -- the next round, in the order that follows
    follows : (starved : ℕ) → starved < most → Bounded (following seed at (commits_of new) starved) new
        → KeepsOn (following seed at (commits_of new) starved) new
    follows starved few bounded =
        record { later = le_refl (commits_of new); few = few; has = turned; bounded = bounded }

    -- behind a commit
    committed : (more : ℕ) → at.round + span * opened + more + 1 ≤ span * (at.begun + 1)
        → commits_of new ≢ at.begun → KeepsOn (following seed at (commits_of new) 0) new
    committed more bound other =
        let paid = pays other in
        follows 0 some (goes (most + budget + 2) (owes_wait refl (omega arith)) (omega (arith, bound, paid)))

    -- so near to a commit, with none in this round
    near_next : (more left : ℕ) → at.round + span * opened + more + 1 ≤ span * (at.begun + 1)
        → commits_of new ≡ at.begun → IsNear new.book.view left → left ≤ more → left ≤ budget + 2
        → KeepsOn (following seed at (commits_of new) 0) new
    near_next more left bound none near low few =
        follows 0 some
        (starts_near (following seed at (commits_of new) 0) new left good'.sound good'.settings_are refl refl turned
        near few (let same = ap (λ c. span * (c + 1)) none in omega (arith, bound, low, same)))

    near_now : waits ≡ false → IsNear new.book.view (budget + 2)
    near_now none =
        subst (λ (s : Settings). IsNear new.book.view (s.budget + 2)) good'.settings_are
        (near_unless image new.book.view good'.sound
        (λ w. let it_is : waits ≡ true = waits_is.1 w in absurd (cc (sym none ∙ it_is))))

    -- the round goes on
    stays_in : (place : ℕ) → ((left : ℕ) → at.forced ≡ false → commits_of new ≡ at.begun → 1 ≤ left
        → IsMidway old.book.view at.order.acts at.place left → IsMidway new.book.view at.order.acts place left)
        → (more : ℕ) → Owes at old more → at.round + span * opened + more + 1 ≤ span * (at.begun + 1)
        → KeepsOn (record at { place = place }) new
    stays_in place on more owes bound = elim (cases_eq (commits_of new) at.begun) [
      | inl none ↦ keep (by_owes none owes)
      | inr other ↦ keep (owes_nothing other)
    ]
      where
        keep : Owes (record at { place = place }) new more → KeepsOn (record at { place = place }) new
        keep owed = record { later = later; few = was.few; has = was.has; bounded = goes more owed bound }

        by_owes : commits_of new ≡ at.begun → Owes at old more → Owes (record at { place = place }) new more
        by_owes none (owes_nothing other) = absurd (other (none_before none))
        by_owes none (owes_forced forced is) = owes_forced forced is
        by_owes none (owes_wait going is) = owes_wait going is
        by_owes none (owes_run going left is few before) =
            owes_run going left is few (on left going none (omega (arith, is)) before)

    -- behind a round that advanced the least task
    left_forced : at.forced ≡ true → waits ≡ false → (more : ℕ) → Owes at old more
        → at.round + span * opened + more + 1 ≤ span * (at.begun + 1)
        → KeepsOn (following seed at (commits_of new) 0) new
    left_forced forced none more owes bound = elim (cases_eq (commits_of new) at.begun) [
      | inl same ↦ by_owes same owes
      | inr other ↦ committed more bound other
    ]
      where
        by_owes : commits_of new ≡ at.begun → Owes at old more → KeepsOn (following seed at (commits_of new) 0) new
        by_owes same (owes_nothing other) = absurd (other (none_before same))
        by_owes same (owes_forced it_is is) =
            near_next more (budget + 2) bound same (near_now none) (omega (arith, is)) (omega arith)
        by_owes same (owes_wait going is) = absurd (cc (sym forced ∙ going))
        by_owes same (owes_run going left is few before) = absurd (cc (sym forced ∙ going))

    -- a starved round is one without a commit at whose end the least task waits
    starved_is : is_starved at (commits_of new) waits ≡ true → (commits_of new ≡ at.begun) × (waits ≡ true)
    starved_is = by_tests (commits_of new == at.begun) refl waits refl
      where
        by_tests : (b : Bool) → (commits_of new == at.begun) ≡ b → (w : Bool) → waits ≡ w
            → is_starved at (commits_of new) waits ≡ true → (commits_of new ≡ at.begun) × (waits ≡ true)
        by_tests true is true w_is both = (eqb-true (commits_of new) at.begun is, w_is)
        by_tests true is false w_is both =
            absurd (cc (sym (λ i. is i && w_is i) ∙ both))
        by_tests false is w w_is both = absurd (cc (sym (ap (λ b. b && waits) is) ∙ both))

    -- the end of another round, which is starved or isn't
    end_starved : at.forced ≡ false → at.place + 1 ≡ length at.order.acts → is_starved at (commits_of new) waits ≡ true
        → (more : ℕ) → Owes at old more → at.starved + more ≡ most + budget + 2
    end_starved going last it_is more (owes_nothing other) = absurd (other (none_before (starved_is it_is).0))
    end_starved going last it_is more (owes_forced forced is) = absurd (cc (sym forced ∙ going))
    end_starved going last it_is more (owes_wait unforced is) = is
    end_starved going last it_is more (owes_run unforced left is few before) =
        let there = midway going (starved_is it_is).0 left (omega (arith, is)) before in
        let near = near_at_end new.book.view at.order.acts left
        (subst (λ p. IsMidway new.book.view at.order.acts p left) last there) in
        absurd (near_not_waiting image new.book.view good'.sound near.0 near.2 (waits_is.0 (starved_is it_is).1))

    end_fed : at.forced ≡ false → at.place + 1 ≡ length at.order.acts → is_starved at (commits_of new) waits ≡ false
        → (more : ℕ) → Owes at old more → at.round + span * opened + more + 1 ≤ span * (at.begun + 1)
        → KeepsOn (following seed at (commits_of new) 0) new
    end_fed going last it_isnt more owes bound = elim (cases_eq (commits_of new) at.begun) [
      | inl same ↦ by_owes same (unstarved same) owes
      | inr other ↦ committed more bound other
    ]
      where
        unstarved : commits_of new ≡ at.begun → waits ≡ false
        unstarved same = by_wait waits refl
          where
            by_wait : (w : Bool) → waits ≡ w → waits ≡ false
            by_wait false is = is
            by_wait true is =
                let it_is : (commits_of new == at.begun) ≡ true = eq-eqb (commits_of new) at.begun same in
                absurd (cc (sym (λ i. it_is i && is i) ∙ it_isnt))

        by_owes : commits_of new ≡ at.begun → waits ≡ false → Owes at old more
            → KeepsOn (following seed at (commits_of new) 0) new
        by_owes same none (owes_nothing other) = absurd (other (none_before same))
        by_owes same none (owes_forced forced is) = absurd (cc (sym forced ∙ going))
        by_owes same none (owes_wait unforced is) =
            near_next more (budget + 2) bound same (near_now none)
            (let few = was.few in omega (arith, is, few)) (omega arith)
        by_owes same none (owes_run unforced left is few before) =
            let there = midway going same left (omega (arith, is)) before in
            let near = near_at_end new.book.view at.order.acts left
            (subst (λ p. IsMidway new.book.view at.order.acts p left) last there) in
            let less = near.1 in
            near_next more near.0 bound same near.2 (omega (arith, less, is)) (omega (arith, less, few))

    counted : (it_is : Bool) → is_starved at (commits_of new) waits ≡ it_is
        → starved_after at (commits_of new) waits ≡ (if it_is then at.starved + 1 else 0)
    counted it_is is = ap (λ (b : Bool). if b then at.starved + 1 else 0) is

    keeps_on : (more : ℕ) → Owes at old more → at.round + span * opened + more + 1 ≤ span * (at.begun + 1)
        → KeepsOn (stage_after seed most at (commits_of new) waits) new
    keeps_on more owes bound =
        by_stage (λ s. KeepsOn s new) seed most at (commits_of new) waits
        (λ f w. stays_in at.place (λ left going none one before. absurd (cc (sym f ∙ going))) more owes bound)
        (λ f w. left_forced f w more owes bound)
        (λ g l s. forces g (eqb-true (at.place + 1) (length at.order.acts) l)
        (eqb-true (starved_after at (commits_of new) waits) most s) (is_starved at (commits_of new) waits) refl)
        (λ g l s. feeds g (eqb-true (at.place + 1) (length at.order.acts) l)
        (eqb-false (starved_after at (commits_of new) waits) most s) (is_starved at (commits_of new) waits) refl)
        (λ g l. stays_in (at.place + 1) (λ left going none one before. midway going none left one before) more owes
        bound)
      where
        forces : at.forced ≡ false → at.place + 1 ≡ length at.order.acts
            → starved_after at (commits_of new) waits ≡ most → (it_is : Bool)
            → is_starved at (commits_of new) waits ≡ it_is
            → KeepsOn (at_forced at.order (at.round + 1) (commits_of new)) new
        forces going last all true is =
            let count = counted true is in
            let owed = end_starved going last is more owes in
            let same = ap (λ c. span * (c + 1)) (starved_is is).0 in
            record {
              later = le_refl (commits_of new);
              few = some;
              has = was.has;
              bounded = goes (budget + 2) (owes_forced refl refl) (omega (arith, bound, count, all, owed, same));
            }
        forces going last all false is =
            let count = counted false is in absurd (omega (arith, count, all, some))

        feeds : at.forced ≡ false → at.place + 1 ≡ length at.order.acts
            → starved_after at (commits_of new) waits ≢ most → (it_is : Bool)
            → is_starved at (commits_of new) waits ≡ it_is
            → KeepsOn (following seed at (commits_of new) (starved_after at (commits_of new) waits)) new
        feeds going last apart true is =
            let count = counted true is in
            let few = was.few in
            let owed = end_starved going last is more owes in
            let same = ap (λ c. span * (c + 1)) (starved_is is).0 in
            follows (starved_after at (commits_of new) waits) (omega (arith, count, few, apart))
            (goes (more - 1) (owes_wait refl (omega (arith, owed, count, few)))
            (omega (arith, bound, owed, few, same)))
        feeds going last apart false is =
            subst (λ k. KeepsOn (following seed at (commits_of new) k) new) (sym (counted false is))
            (end_fed going last is more owes bound)

    keeps : KeepsOn (stage_after seed most at (commits_of new) waits) new
    keeps = by_bound was.bounded
      where
        place_of : (IsOver old.book.view → at.place ≢ 0)
        place_of = by_act comes
          where
            by_act : ActComes image (OfRounds rounds seed most settings) n at front old moments new
                → IsOver old.book.view → at.place ≢ 0
            by_act (Passes act next unasked same stays) = next.1.1
            by_act (Makes m next asked at_is number_is moment more) = next.1.1

        by_bound : Bounded at old → KeepsOn (stage_after seed most at (commits_of new) waits) new
        by_bound (ended over first bound) = absurd (place_of over first)
        by_bound (goes more owes bound) = keeps_on more owes bound

  module _ (sound : Sound image opening.view) (going : opening.stopped ≡ false) where
    first_keeps : KeepsOn (first_stage (OfRounds rounds seed most settings) opened) (begun opening)
    unfolding first_stage
    first_keeps = record {
      later = le_refl opened;
      few = some;
      has =
          next_has settings.tiles settings.cores seed
          (record { drawn = seed; acts = round_acts settings.tiles settings.cores })
          (round_has settings.tiles settings.cores sound.sizes.settings.tiles.0);
      bounded =
          goes (most + budget + 2) (owes_wait refl (omega arith))
          (let more : span * (opened + 1) ≡ span * opened + span = omega arith in omega (arith, more));
    }

    keeps_all : (count : ℕ) (stage : Stage) (moments : List (Moment N)) (last : PlayState)
        → StoryLeads image (OfRounds rounds seed most settings) opening count stage moments last
        → KeepsOn stage last
    keeps_all zero stage moments last leads =
        subst (λ s. KeepsOn s last) (sym leads.2)
        (subst (KeepsOn (first_stage (OfRounds rounds seed most settings) opened)) (sym leads.1) first_keeps)
    keeps_all (suc n) stage moments last leads =
        let before = story_goes_well N image (OfRounds rounds seed most settings) opening sound going refl n leads.2
        leads.0 leads.1 leads.3 in
        let now = story_goes_well N image (OfRounds rounds seed most settings) opening sound going refl (suc n) stage
        moments last leads in
        subst (λ s. KeepsOn s last) (sym leads.5.stage_is)
        (keeps n leads.2 leads.0 moments leads.1 last leads.5.waits leads.5.waits_is before.good now.good
        (λ act is. act_within settings.tiles settings.cores leads.2 act before.fits is) leads.4
        (keeps_all n leads.2 leads.0 leads.1 leads.3))

pub rounds_get_on : (N : Type 0) → RoundsGetOn N
rounds_get_on N image rounds seed most opening count stage moments last is some =
    let keeps = keeps_all N image rounds seed most opening some is.sound is.going count stage moments last is.leads in
    let most_rounds = most + opening.view.settings.budget + 3 in
    let low = keeps.later in
    let less : stage.begun + 1 ≤ commits_of last + 1 = omega (arith, low) in
    let more = mul-le most_rounds (stage.begun + 1) most_rounds (commits_of last + 1) (le_refl most_rounds) less in
    by_bound keeps.bounded more
  where
    by_bound : Bounded N image rounds seed most opening some stage last
        → (most + opening.view.settings.budget + 3) * (stage.begun + 1)
        ≤ (most + opening.view.settings.budget + 3) * (commits_of last + 1)
        → stage.round + (most + opening.view.settings.budget + 3) * length opening.view.history
        ≤ (most + opening.view.settings.budget + 3) * (length last.book.view.history + 1)
    by_bound (ended over first bound) more = omega (arith, bound, more)
    by_bound (goes left owes bound) more = omega (arith, bound, more)
