-- What an act of a round leaves of a dispatched least task: it commits, comes nearer to its commit, or is as before.
use Rattle.std.proofs.Common.{ℕ, ◌≡◌, ◌≢◌, ◌⊎◌, ◌+◌, ◌-◌, ◌<◌, ◌≤◌, Some, inl, inr, length, refl, sym, ap, subst, ◌∙◌}
use Rattle.std.proofs.Common.{List, [], arith, true}
use Rattle.std.specs.List.{Contains}
use Rattle.std.proofs.lemmas.Option.{slice_get_within}
use Rattle.guest_image.specs.ImageValue.{ImageValue}
use Rattle.rv_core.specs.LegValue.{IsLegOfImage, LegValue}
use Rattle.watch_counts.specs.spec_state.declared.task.Status.{Status}
use Rattle.watch_counts.specs.spec_state.declared.task.Status.TheVariants.{Idle, Running, Trapped, Finished}
use Rattle.watch_counts.specs.spec_state.declared.task.Task.{Task}
use Rattle.watch_counts.specs.spec_state.Least.{IsHeir, IsLeastTask}
use Rattle.watch_counts.specs.spec_state.Queries.{IsRunning}
use Rattle.watch_counts.specs.spec_state.Stored.{HasCore}
use Rattle.watch_counts.specs.spec_state.Tasks.{is_dispatched}
use Rattle.watch_counts.specs.spec_state.View.{View, cores_at, task_at}
use Rattle.watch_counts.specs.spec_state.task_law.Advance.{Standing, rest_of_way}
use Rattle.watch_counts.specs.spec_state.task_law.Advance as standing
use Rattle.watch_counts.specs.spec_law.Sound.{Sound}
use Rattle.watch_counts.specs.event_def.declared.event.Event.{Event}
use Rattle.watch_counts.specs.event_def.declared.event.Event.TheVariants as event
use Rattle.watch_counts.specs.event_def.declared.event.Reply.{Reply}
use Rattle.watch_counts.specs.event_def.declared.event.Reply.TheVariants as replies
use Rattle.watch_counts.specs.event_def.Advancing.{HasRest, IsLeastLeg, IsNextEvent, StandsSo}
use Rattle.watch_counts.specs.event_def.End.{IsOver}
use Rattle.watch_counts.specs.event_def.Happens.{Happens, IsMade}
use Rattle.watch_counts.specs.step_script.declared.act.Act.{Act}
use Rattle.watch_counts.specs.step_script.declared.act.Act.TheVariants as acts
use Rattle.watch_counts.specs.step_script.Asking.{AsksAdvance, AsksFor, AsksStep, Attempt, ComesOf, Hands}
use Rattle.watch_counts.specs.step_script.Asking as asking
use Rattle.watch_counts.specs.step_script.Playing.{HasLegAt, HeldLeg, PlayState}
use Rattle.watch_counts.specs.step_script.Ranges.{ActIsInRange}
use Rattle.watch_counts.proofs.Below.event_law.Below.spec_state.Proved.{at_within}
use Rattle.watch_counts.proofs.Below.event_law.Ends.{one_least}
use Rattle.watch_counts.proofs.Below.event_law.Falls.Rest.{most_left, not_both}
use Rattle.watch_counts.proofs.Below.event_law.Proved.{advances_fall, leg_is_run}
use Rattle.watch_counts.proofs.Below.event_law.Proved.{refusals_change_nothing, rest_is_there}
use Rattle.watch_counts.proofs.Below.event_law.Proved.{running_is_dispatched, running_within}
use Rattle.watch_counts.proofs.Below.event_basis.Holders.{finished_is_dispatched}
use Rattle.watch_counts.proofs.Below.spec_law.Proved.{least_is_one}
use Rattle.watch_play.specs.Courses.{IsAskedInRound}
use Rattle.watch_play.specs.Stories.{commits_of}
use Rattle.rounds_law.proofs.Commits.{one_commit}
use Rattle.watch_play.proofs.Forced.{made_of}
use Rattle.rounds_law.proofs.Heirs.{Still, busy, dispatch_by, split, step_leaves}

-- what is left of the way of a task
abbrev pub left_of : ℕ → Task → ℕ
left_of budget task = most_left budget task.status task.core.used

-- the act of a round by which a dispatched least task gets on
abbrev pub act_by : ℕ → Status → Act
act_by tile (Running core) = acts.Step tile core
act_by tile other = acts.Commit

abbrev pub own_act : Task → Act
own_act task = act_by task.tile task.status

-- the run is over, or a dispatched least task is no further from its commit than this
pub data IsNear (view : View) (left : ℕ) : Type 0 where
  is_over : IsOver view → IsNear view left
  has_heir : (id : ℕ) (heir : IsHeir view (Some id)) → left_of view.settings.budget heir.0 ≤ left → IsNear view left

module _ (image : ImageValue) (view : View) (sound : Sound image view) where
  finished_runs : (id : ℕ) (task : Task) → IsLeastTask view id task → task.status ≡ Finished
      → is_dispatched task ≡ true
  finished_runs id task least is =
      finished_is_dispatched image view sound task.tile id task (record {
        queued = (sound.sizes.finished_are task.tile id).1 (task, least.queued_at.there, refl, is);
        there = least.queued_at.there;
      })

  -- so it is where so little is left
  pub near_by_rest : (left : ℕ) → HasRest view left → left ≤ view.settings.budget + 2 → IsNear view left
  near_by_rest left has few = by_standing has.stands has.stands_so has.left_is
    where
      by_standing : (stands : Standing) → StandsSo view stands
          → left ≡ rest_of_way view.settings.budget stands → IsNear view left
      by_standing standing.Over over is = is_over over
      by_standing standing.Finished so is =
          has_heir so.1 (so.2, so.3, finished_runs so.1 so.2 so.3 so.4)
          (let one = ap (λ s. most_left view.settings.budget s so.2.core.used) so.4 in omega (arith, one, is))
      by_standing (standing.Running used) so is =
          has_heir so.1 (so.2, so.4, running_is_dispatched image view sound so.1 so.3 so.2 so.4.queued_at.there so.5)
          (let one = ap (λ s. most_left view.settings.budget s so.2.core.used) so.5 in
          let same = so.6 in
          omega (arith, one, is, same))
      by_standing standing.Idle so is = absurd (omega (arith, few, is))
      by_standing standing.Spilled so is = absurd (omega (arith, few, is))

  -- while the run goes on, an heir runs or is finished
  pub heir_stands : (IsOver view → ⊥) → (id : ℕ) (heir : IsHeir view (Some id))
      → ((core : ℕ) × (heir.0.status ≡ Running core)) ⊎ (heir.0.status ≡ Finished)
  heir_stands on id heir = by_standing rest.1.stands rest.1.stands_so
    where
      rest : (left : ℕ) × HasRest view left
      rest = rest_is_there image view sound

      same : (k : ℕ) (x : Task) → IsLeastTask view k x → heir.0.status ≡ x.status
      same k x least =
          ap (λ (t : Task). t.status) (one_least view (least_is_one view) id k heir.0 x heir.1 least)

      by_standing : (stands : Standing) → StandsSo view stands
          → ((core : ℕ) × (heir.0.status ≡ Running core)) ⊎ (heir.0.status ≡ Finished)
      by_standing standing.Over over = absurd (on over)
      by_standing standing.Finished so = inr (same so.1 so.2 so.3 ∙ so.4)
      by_standing (standing.Running used) so = inl (so.3, same so.1 so.2 so.4 ∙ so.5)
      by_standing standing.Idle so = absurd (busy image view sound id heir (same so.1 so.2 so.3 ∙ so.4))
      by_standing standing.Spilled so = absurd (not_both view id so.1 heir.0 heir.1 so.2)

-- on a machine of these settings its own act is there, in an order that has all of them, and something is left
pub heir_is_there : (image : ImageValue) (view : View) (sound : Sound image view) (id : ℕ)
    (heir : IsHeir view (Some id)) (tiles cores : ℕ) (list : List Act) → view.settings.tiles ≡ tiles
    → view.settings.cores ≡ cores
    → ((tile core : ℕ) → tile < tiles → core < cores → Contains list (acts.Step tile core))
    → Contains list acts.Commit → (1 ≤ left_of view.settings.budget heir.0) × Contains list (own_act heir.0)
heir_is_there image view sound id heir tiles cores list tiles_are cores_are steps commit =
    (some heir.0.status, by_status heir.0.status refl)
  where
    some : (s : Status) → 1 ≤ most_left view.settings.budget s heir.0.core.used
    some Idle = omega arith
    some (Running core) = omega arith
    some (Trapped core cause) = omega arith
    some Finished = omega arith

    tile_low : heir.0.tile < view.settings.tiles
    tile_low =
        let at = at_within view.queues heir.0.tile heir.1.place id heir.1.queued_at.queued in
        let queues = sound.sizes.queues in omega (arith, at, queues)

    core_low : (core : ℕ) → heir.0.status ≡ Running core → core < view.settings.cores
    core_low core runs =
        let held = (sound.sizes.held_are heir.0.tile core id).1 (
          heir.0,
          heir.1.queued_at.there,
          refl,
          subst (λ (s : Status). HasCore s core) (sym runs) refl,
        ) in
        let tile = tile_low in
        let cores_of = sound.sizes.cores in
        let below : heir.0.tile < length view.cores = omega (arith, tile, cores_of) in
        subst (λ n. core < n) (sound.sizes.core_counts heir.0.tile [] below)
        (slice_get_within (cores_at view heir.0.tile) core (Some id) held)

    by_status : (s : Status) → heir.0.status ≡ s → Contains list (act_by heir.0.tile s)
    by_status (Running core) is =
        let tile = tile_low in
        let low = core_low core is in
        steps heir.0.tile core (omega (arith, tile, tiles_are)) (omega (arith, low, cores_are))
    by_status Idle is = commit
    by_status (Trapped core cause) is = commit
    by_status Finished is = commit

-- what an act leaves of it
pub data Leaves (old new : PlayState) (id : ℕ) (heir : IsHeir old.book.view (Some id)) : Type 0 where
  nothing_new : new.book ≡ old.book → Leaves old new id heir
  commits_one : commits_of new ≡ commits_of old + 1 → Leaves old new id heir
  comes_nearer : (left : ℕ) → HasRest new.book.view left → left < left_of old.book.view.settings.budget heir.0
      → Leaves old new id heir
  stands_still : Still old.book.view new.book.view id heir → Leaves old new id heir

-- it has committed, or is nearer
abbrev pub GetsOn : (old new : PlayState) (id : ℕ) → IsHeir old.book.view (Some id) → Type 0
GetsOn old new id heir =
    (commits_of new ≡ commits_of old + 1)
    ⊎ ((left : ℕ) × HasRest new.book.view left × (left < left_of old.book.view.settings.budget heir.0))

module _ (N : Type 0) (image : ImageValue) (old new : PlayState) (sound : Sound image old.book.view)
    (sound' : Sound image new.book.view) (on : IsOver old.book.view → ⊥) (id : ℕ)
    (heir : IsHeir old.book.view (Some id)) where
  abbrev pub view : View
  view = old.book.view

  gets_on_so : GetsOn old new id heir → Leaves old new id heir
  gets_on_so (inl one) = commits_one one
  gets_on_so (inr nearer) = comes_nearer nearer.0 nearer.1 nearer.2

  -- an event that isn't made leaves all as it is
  refused : (e : Event N) (reply : Reply) (aborted : ℕ) → Happens old.book e reply aborted new.book
      → reply ≢ replies.Ok → Leaves old new id heir
  refused e reply aborted happens not =
      nothing_new (refusals_change_nothing N old.book new.book e reply aborted happens not).1

  by_reply : (e : Event N) (reply : Reply) (aborted : ℕ) → Happens old.book e reply aborted new.book
      → (IsMade old.book e aborted new.book → Leaves old new id heir) → Leaves old new id heir
  by_reply e replies.Ok aborted happens made = made happens
  by_reply e replies.Memory aborted happens made = refused e replies.Memory aborted happens (λ is. absurd (cc (is)))
  by_reply e replies.Empty aborted happens made = refused e replies.Empty aborted happens (λ is. absurd (cc (is)))
  by_reply e replies.Busy aborted happens made = refused e replies.Busy aborted happens (λ is. absurd (cc (is)))
  by_reply e replies.Stall aborted happens made = refused e replies.Stall aborted happens (λ is. absurd (cc (is)))
  by_reply e replies.Stale aborted happens made = refused e replies.Stale aborted happens (λ is. absurd (cc (is)))
  by_reply e replies.Firm aborted happens made = refused e replies.Firm aborted happens (λ is. absurd (cc (is)))
  by_reply e replies.Ended aborted happens made = refused e replies.Ended aborted happens (λ is. absurd (cc (is)))

  one_task : (k : ℕ) (x : Task) → IsLeastTask view k x → heir.0 ≡ x
  one_task k x least = one_least view (least_is_one view) id k heir.0 x heir.1 least

  -- the event for it commits it, or brings it nearer
  own_event : (e : Event N) → IsNextEvent image view e → (aborted : ℕ) → IsMade old.book e aborted new.book
      → GetsOn old new id heir
  own_event event.Commit next aborted made = inl (one_commit N old.book new.book aborted made)
  own_event (event.Step tile core leg) next aborted made =
      let rest = rest_is_there image new.book.view sound' in
      let runs : heir.0.status ≡ Running core =
      ap (λ (t : Task). t.status) (one_task next.least.id next.least.task next.least.least) ∙ next.least.runs in
      let had : HasRest view (left_of view.settings.budget heir.0) = record {
        stands = standing.Running heir.0.core.used;
        stands_so = (on, id, heir.0, core, heir.1, runs, refl);
        left_is = ap (λ s. most_left view.settings.budget s heir.0.core.used) runs;
      } in
      inr (
        rest.0,
        rest.1,
        advances_fall N image old.book new.book (event.Step tile core leg) aborted (left_of view.settings.budget heir.0)
            rest.0 sound next tt made had rest.1,
      )
  own_event (event.Dispatch tile) next aborted made =
      absurd (busy image view sound id heir
      (ap (λ (t : Task). t.status) (one_task next.least.0 next.least.1 next.least.2) ∙ next.least.3))
  own_event (event.Split tile) next aborted made = absurd (not_both view id tile heir.0 heir.1 next.least)
  own_event (event.Abort tile) next aborted made = absurd next.least
  own_event (event.Coalesce tile) next aborted made = absurd next.least

  handed_next : (e : Event N) → IsNextEvent image view e → (reply : Reply) (aborted : ℕ) (asks : Attempt N)
      → asks ≡ Hands e → ComesOf asks reply aborted old.book new.book → GetsOn old new id heir
  handed_next e next reply aborted asks is came =
      let so = subst (λ a. ComesOf a reply aborted old.book new.book) is came in
      own_event e next aborted (made_of N image old.book new.book aborted sound e next reply so.0 so.1)

  -- the leg of a step of the heir is one for the least task
  next_step : (tile core : ℕ) (leg : LegValue) (has : HasLegAt image view tile core leg) → has.id ≡ id
      → IsNextEvent {N = N} image view (event.Step tile core leg)
  next_step tile core leg has same =
      let at = (sound.sizes.held_are tile core has.id).0 has.runs.on.held in
      let both : Some at.0 ≡ Some has.task = sym at.1 ∙ has.runs.on.there in
      let one : at.0 ≡ has.task = cc in
      let heirs : Some heir.0 ≡ Some has.task =
      sym heir.1.queued_at.there ∙ (ap (task_at view) (sym same) ∙ has.runs.on.there) in
      let is : heir.0 ≡ has.task = cc in
      record {
        goes_on = on;
        least = record {
          id = has.id;
          task = has.task;
          least = subst (λ k. IsLeastTask view k has.task) (sym same) (subst (IsLeastTask view id) is heir.1);
          runs = has.runs.running;
          there = ap (λ (t : Task). t.tile) (sym one) ∙ at.2;
          runs_on = has.leg_from;
        };
      }

  -- it gets on by its own act
  pub own : (act : Act) (asks : Attempt N) (held : List HeldLeg) (reply : Reply) (aborted : ℕ) → act ≡ own_act heir.0
      → AsksFor image act old asks held → ComesOf asks reply aborted old.book new.book → GetsOn old new id heir
  own act asks held reply aborted is asked came = elim (heir_stands image view sound on id heir) [
    | inl runs ↦
        let step : act ≡ acts.Step heir.0.tile runs.0 = is ∙ ap (act_by heir.0.tile) runs.1 in
        by_step runs.0 runs.1 (subst (λ a. AsksFor image a old asks held) step asked)
    | inr done ↦
        let commit : act ≡ acts.Commit = is ∙ ap (act_by heir.0.tile) done in
        let hands = subst (λ a. AsksFor image a old asks held) commit asked in
        handed_next event.Commit (record { goes_on = on; least = (id, heir.0, heir.1, done) }) reply aborted asks
        hands.asks_is came
  ]
    where
      on_core : (core : ℕ) → heir.0.status ≡ Running core → IsRunning view heir.0.tile core id heir.0
      on_core core runs = record {
        on = record {
          held = (sound.sizes.held_are heir.0.tile core id).1 (
            heir.0,
            heir.1.queued_at.there,
            refl,
            subst (λ (s : Status). HasCore s core) (sym runs) refl,
          );
          there = heir.1.queued_at.there;
        };
        running = runs;
      }

      by_step : (core : ℕ) → heir.0.status ≡ Running core → AsksStep image heir.0.tile core old asks held
          → GetsOn old new id heir
      by_step core runs (asking.step_runs leg going has hands) =
          let ids : Some (Some has.id) ≡ Some (Some id) = sym has.runs.on.held ∙ (on_core core runs).on.held in
          let same : has.id ≡ id = cc in
          handed_next (event.Step heir.0.tile core leg) (next_step heir.0.tile core leg has same) reply aborted asks
          hands.asks_is came
      by_step core runs (asking.step_ended over says) = absurd (on over)
      by_step core runs (asking.step_stale going none says) = absurd (none id heir.0 (on_core core runs))

  -- and is asked for
  pub own_is_asked : (act : Act) → act ≡ own_act heir.0 → IsAskedInRound view act
  own_is_asked act is = elim (heir_stands image view sound on id heir) [
    | inl runs ↦
        let step : act ≡ acts.Step heir.0.tile runs.0 = is ∙ ap (act_by heir.0.tile) runs.1 in
        subst (IsAskedInRound view) (sym step) (
          id,
          heir.0,
          record {
            on = record {
              held = (sound.sizes.held_are heir.0.tile runs.0 id).1 (
                heir.0,
                heir.1.queued_at.there,
                refl,
                subst (λ (s : Status). HasCore s runs.0) (sym runs.1) refl,
              );
              there = heir.1.queued_at.there;
            };
            running = runs.1;
          },
        )
    | inr done ↦
        let commit : act ≡ acts.Commit = is ∙ ap (act_by heir.0.tile) done in
        subst (IsAskedInRound view) (sym commit) (id, heir.0, heir.1, done)
  ]

  leg_runs : (tile core : ℕ) (leg : LegValue) → HasLegAt image view tile core leg
      → IsLegOfImage image view.settings.budget leg
  leg_runs tile core leg has =
      leg_is_run image view.settings.budget view.settings.quantum leg has.leg_from.is_leg
      (subst (λ c. c.used ≤ view.settings.budget) (sym has.leg_from.from)
      (running_within image view sound has.id core has.task has.runs.on.there has.runs.running))

  -- whatever act a round asks for
  pub leaves : (act : Act) (asks : Attempt N) (held : List HeldLeg) (reply : Reply) (aborted : ℕ)
      → IsAskedInRound view act → ActIsInRange view.settings.tiles view.settings.cores act
      → AsksFor image act old asks held → ComesOf asks reply aborted old.book new.book → Leaves old new id heir
  leaves (acts.Dispatch tile) asks held reply aborted in_round inside asked came =
      let so = subst (λ a. ComesOf a reply aborted old.book new.book) asked.asks_is came in
      by_reply (event.Dispatch tile) reply aborted so.1 (λ made.
      stands_still (dispatch_by N image old.book sound id heir tile aborted made.makes.0.mid made.makes.0.ready
      new.book.view made.granted made.makes.0.forced made.makes.0.number made.makes.0.change))
  leaves (acts.Step tile core) asks held reply aborted in_round inside asked came = by_step asked
    where
      by_step : AsksStep image tile core old asks held → Leaves old new id heir
      by_step (asking.step_runs leg going has hands) =
          let so = subst (λ a. ComesOf a reply aborted old.book new.book) hands.asks_is came in
          by_reply (event.Step tile core leg) reply aborted so.1 (λ made.
          elim (step_leaves N image old.book sound id heir tile core leg (leg_runs tile core leg has) aborted
          new.book.view new.book.placers made.makes) [
            | inl same ↦
                (let ids : Some (Some has.id) ≡ Some (Some made.makes.id) =
                sym has.runs.on.held ∙ made.makes.takes.runs.on.held in
                let one : has.id ≡ made.makes.id = cc in
                gets_on_so (own_event (event.Step tile core leg) (next_step tile core leg has (one ∙ same)) aborted
                made))
            | inr still ↦ stands_still still
          ])
      by_step (asking.step_ended over says) = absurd (on over)
      by_step (asking.step_stale going none says) =
          let so = subst (λ a. ComesOf a reply aborted old.book new.book) says.asks_is came in nothing_new so.2
  leaves acts.Commit asks held reply aborted in_round inside asked came =
      let so = subst (λ a. ComesOf a reply aborted old.book new.book) asked.asks_is came in
      by_reply event.Commit reply aborted so.1 (λ made. commits_one (one_commit N old.book new.book aborted made))
  leaves (acts.Split tile) asks held reply aborted in_round inside asked came =
      let so = subst (λ a. ComesOf a reply aborted old.book new.book) asked.asks_is came in
      by_reply (event.Split tile) reply aborted so.1 (λ made.
      stands_still (split N image old.book sound id heir tile aborted new.book.view inside made.makes.0))
  leaves acts.Advance asks held reply aborted in_round inside asked came = by_advance asked
    where
      by_advance : AsksAdvance image old asks held → Leaves old new id heir
      by_advance (asking.advance_next e next hands) =
          gets_on_so (handed_next e next reply aborted asks hands.asks_is came)
      by_advance (asking.advance_ended over says) = absurd (on over)
  leaves (acts.Take tile core) asks held reply aborted in_round inside asked came = absurd in_round
  leaves (acts.Give tile core) asks held reply aborted in_round inside asked came = absurd in_round
  leaves (acts.Abort tile) asks held reply aborted in_round inside asked came = absurd in_round
  leaves (acts.Coalesce tile) asks held reply aborted in_round inside asked came = absurd in_round
