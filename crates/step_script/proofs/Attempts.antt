-- What acts come to.
use Rattle.std.proofs.Common.{◌≡◌, ◌⊎◌, ◌≤◌, ◌<◌, ℕ, List, [], length, Some, None}
use Rattle.std.proofs.Common.{Result, inl, inr, refl, sym, ap, subst, ◌∙◌}
use Rattle.std.specs.Prelude.{IfOk, OnErr, slice_get}
use Rattle.std.proofs.lemmas.Bool.{cases_lt}
use Rattle.std.proofs.lemmas.List.{get_or_past}
use Rattle.std.proofs.lemmas.Option.{slice_get_within}
use Rattle.std.proofs.lemmas.Result.{IfOk-weaker, on_err_weaker}
use Rattle.guest_image.specs.ImageValue.{ImageValue}
use Rattle.rv_core.specs.LegValue.{LegValue}
use Rattle.conflict_book.specs.spec_state.declared.task.Status.TheVariants.{Running}
use Rattle.conflict_book.specs.spec_state.declared.task.Task.{Task}
use Rattle.conflict_book.specs.spec_state.declared.task.TaskId.{TaskId}
use Rattle.conflict_book.specs.spec_state.declared.task.Where.{Where}
use Rattle.conflict_book.specs.spec_state.declared.task.Where.TheVariants as where_
use Rattle.conflict_book.specs.spec_state.Least.{IsLeast, IsLeastTask}
use Rattle.conflict_book.specs.spec_state.Queries.{IsRunning}
use Rattle.conflict_book.specs.spec_state.Stored.{HasCore}
use Rattle.conflict_book.specs.spec_state.View.{View, cores_at, task_at}
use Rattle.conflict_book.specs.spec_law.Sound.{Sound}
use Rattle.conflict_book.specs.event_def.declared.event.Event.{Event}
use Rattle.conflict_book.specs.event_def.declared.event.Event.TheVariants as event
use Rattle.conflict_book.specs.event_def.declared.event.Reply.TheVariants as reply
use Rattle.conflict_book.specs.event_def.Advancing.{IsNextEvent}
use Rattle.conflict_book.specs.event_def.Book.{BookView}
use Rattle.conflict_book.specs.event_def.End.{IsOver}
use Rattle.conflict_book.proofs.Below.event_basis.Proved.{next_is_step, trapped_is_over}
use Rattle.step_script.specs.declared.act.Act.{Act}
use Rattle.step_script.specs.declared.act.Act.TheVariants as acts
use Rattle.step_script.specs.Playing.{HasLegAt, HeldLeg, PlayerValue, held_for, holding}
use Rattle.step_script.specs.Playing.{without_held_leg}
use Rattle.step_script.proofs.HeldLegs.{without_unheld}
use Rattle.step_script.specs.declared.asked.Asked.{Asked}
use Rattle.step_script.specs.Asking.{Attempt, AsksAdvance, AsksFor, AsksGive, AsksStep, AsksTake, Hands, RunsOut}
use Rattle.step_script.specs.Asking.{Says, advance_next, asks_of, give_hands, give_stale, step_runs, take_holds}
use Rattle.conflict_book.proofs.Proved.{ReadsTile, next_commit, next_dispatch, next_split, tile_is}

-- a step comes to the leg of the task that runs there
pub step_asks : (N : Type 0) (image : ImageValue) (tile core : ℕ) (book : BookView) (leg : LegValue)
    → (IsOver book.view → ⊥) → HasLegAt image book.view tile core leg → (held : List HeldLeg)
    → AsksStep {N = N} image tile core (record { book = book; held = held }) (Hands (event.Step tile core leg)) held
step_asks N image tile core book leg going has held =
    step_runs leg going has (record { asks_is = refl; held_is = refl })

-- a take holds it
pub take_asks : (N : Type 0) (image : ImageValue) (tile core : ℕ) (book : BookView) (held after : List HeldLeg)
    (leg : LegValue) → HasLegAt image book.view tile core leg → after ≡ holding tile core leg held
    → AsksTake {N = N} image tile core (record { book = book; held = held }) (Says reply.Ok) after
take_asks N image tile core book held after leg has is = take_holds leg has refl is

-- a give comes to the leg that is held
pub give_asks : (N : Type 0) (tile core : ℕ) (book : BookView) (held after : List HeldLeg) (found leg : LegValue)
    → (IsOver book.view → ⊥) → held_for tile core held ≡ Some found → leg ≡ found
    → after ≡ without_held_leg tile core held
    → AsksGive {N = N} tile core (record { book = book; held = held }) (Hands (event.Step tile core leg)) after
give_asks N tile core book held after found leg going is same rest =
    give_hands leg going (is ∙ ap Some (sym same)) refl rest

-- or none is
pub give_asks_none : (N : Type 0) (tile core : ℕ) (book : BookView) (held after : List HeldLeg)
    → (IsOver book.view → ⊥) → held_for tile core held ≡ None → after ≡ without_held_leg tile core held
    → AsksGive {N = N} tile core (record { book = book; held = held }) (Says reply.Stale) after
give_asks_none N tile core book held after going none rest =
    give_stale going none (record { asks_is = refl; held_is = rest ∙ without_unheld tile core held none })

-- an advance comes to the event for the least task
pub advance_asks : (N : Type 0) (image : ImageValue) (book : BookView) (e : Event N) → IsNextEvent image book.view e
    → (held : List HeldLeg) → AsksAdvance image (record { book = book; held = held }) (Hands e) held
advance_asks N image book e next held = advance_next e next (record { asks_is = refl; held_is = refl })

-- ---- what a player asks, by its parts

module _ (N : Type 0) (image : ImageValue) (act this : Act) (is : act ≡ this) (inside old : PlayerValue)
    (same : inside ≡ old) (book : BookView) where
  -- an act that is this one comes to the same
  pub asks_by : (asks : Attempt N) (held : List HeldLeg)
      → AsksFor image this (record { book = book; held = inside.held }) asks held
      → AsksFor image act (record { book = book; held = old.held }) asks held
  asks_by asks held asked =
      subst (λ a. AsksFor image a (record { book = book; held = old.held }) asks held) (sym is)
      (subst (λ (p : PlayerValue). AsksFor image this (record { book = book; held = p.held }) asks held) same asked)

-- a take, over which memory may run out
module _ {E : Type 0} (act : Act) (tile core : ℕ) (is : act ≡ acts.Take tile core) (inside old : PlayerValue)
    (same : inside ≡ old) (held : List HeldLeg) (r : Result Asked E) where
  pub takes_by : (N : Type 0) (image : ImageValue) (book : BookView)
      → IfOk r (λ asked. (some : LegValue) → AsksTake {N = N} image tile core
      (record { book = book; held = inside.held }) (asks_of asked some) held)
      → IfOk r (λ asked. AsksFor {N = N} image act (record { book = book; held = old.held })
      (asks_of asked inside.leg) held)
  takes_by N image book =
      IfOk-weaker r _ _ (λ asked takes. asks_by N image act (acts.Take tile core) is inside old same book
      (asks_of asked inside.leg) held (takes inside.leg))

  pub runs_out : OnErr r (held ≡ without_held_leg tile core inside.held)
      → OnErr r (RunsOut act old (record { held = held; leg = inside.leg }))
  runs_out =
      on_err_weaker r (λ rest. subst (λ a. RunsOut a old (record { held = held; leg = inside.leg })) (sym is)
      (subst (λ (p : PlayerValue). RunsOut (acts.Take tile core) p (record { held = held; leg = inside.leg })) same
      (ap (λ h. record { held = h; leg = inside.leg }) rest)))

-- ---- the least task

module _ (image : ImageValue) (view : View) (sound : Sound image view) where
  -- a core that holds a task is there
  tile_is_there : (tile core id : ℕ) → slice_get (cores_at view tile) core ≡ Some (Some id)
      → tile < view.settings.tiles
  tile_is_there tile core id held =
      subst (λ n. tile < n) sound.sizes.cores (by_length (cases_lt tile (length view.cores)))
    where
      by_length : (tile < length view.cores) ⊎ (length view.cores ≤ tile) → tile < length view.cores
      by_length (inl below) = below
      by_length (inr past) =
          let none : cores_at view tile ≡ [] = get_or_past view.cores tile [] past in
          let is : slice_get [] core ≡ Some (Some id) = subst (λ l. slice_get l core ≡ Some (Some id)) none held in
          absurd (cc (is))

  core_is_there : (tile core id : ℕ) → slice_get (cores_at view tile) core ≡ Some (Some id)
      → core < view.settings.cores
  core_is_there tile core id held =
      let inside : tile < length view.cores = subst (λ n. tile < n) (sym sound.sizes.cores)
      (tile_is_there tile core id held) in
      subst (λ n. core < n) (sound.sizes.core_counts tile [] inside)
      (slice_get_within (cores_at view tile) core (Some id) held)

  module _ (id : TaskId) (tile core : ℕ) (task : Task) (there : task_at view id.0 ≡ Some task)
      (runs : task.status ≡ Running core) (read : ReadsTile view id tile) where
    -- a running task stands on its core
    pub stands_there : IsRunning view tile core id.0 task
    stands_there =
        let held =
        (sound.sizes.held_are tile core id.0).1 (
          task,
          there,
          sym (tile_is view id tile task there read),
          subst (λ status. HasCore status core) (sym runs) refl,
        ) in
        record { on = record { held = held; there = there }; running = runs }

    pub runs_in_tile : tile < view.settings.tiles
    runs_in_tile = tile_is_there tile core id.0 stands_there.on.held

    pub runs_on_core : core < view.settings.cores
    runs_on_core = core_is_there tile core id.0 stands_there.on.held

    -- its leg is the event of the least task, where it is that
    pub next_is_leg : (N : Type 0) → (IsOver view → ⊥) → IsLeast view (where_.Running id) → (leg : LegValue)
        → HasLegAt image view tile core leg → IsNextEvent {N = N} image view (event.Step tile core leg)
    next_is_leg N going least leg has =
        let on : Some (Some has.id) ≡ Some (Some id.0) = sym has.runs.on.held ∙ stands_there.on.held in
        let ids : has.id ≡ id.0 = cc in
        let at : Some has.task ≡ Some least.0 =
        sym has.runs.on.there ∙ (ap (task_at view) ids ∙ least.2.queued_at.there) in
        let tasks : has.task ≡ least.0 = cc in
        let first : IsLeastTask view id.0 has.task = subst (IsLeastTask view id.0) (sym tasks) least.2 in
        let in_tile : has.task.tile ≡ tile = sym (tile_is view id tile has.task
        (sym (ap (task_at view) ids) ∙ has.runs.on.there) read) in
        subst (λ t. IsNextEvent {N = N} image view (event.Step t core leg)) in_tile
        (next_is_step N image view going id.0 core has.task leg first has.runs.running has.leg_from)

-- ---- by what is read of a state that is the book's

module _ (image : ImageValue) (seen view : View) (same : seen ≡ view) (sound : Sound image seen) where
  here : Sound image view
  here = subst (Sound image) same sound

  module _ (id : TaskId) (tile core : ℕ) (task : Task) (there : task_at seen id.0 ≡ Some task)
      (runs : task.status ≡ Running core) (read : ReadsTile seen id tile) where
    stands_here : task_at view id.0 ≡ Some task
    stands_here = subst (λ v. task_at v id.0 ≡ Some task) same there

    read_here : ReadsTile view id tile
    read_here = subst (λ v. ReadsTile v id tile) same read

    pub seen_running : IsRunning view tile core id.0 task
    seen_running = stands_there image view here id tile core task stands_here runs read_here

    pub seen_in_tile : tile < view.settings.tiles
    seen_in_tile = runs_in_tile image view here id tile core task stands_here runs read_here

    pub seen_on_core : core < view.settings.cores
    seen_on_core = runs_on_core image view here id tile core task stands_here runs read_here

    pub seen_leg : (N : Type 0) → (IsOver view → ⊥) → IsLeast view (where_.Running id) → (leg : LegValue)
        → HasLegAt image view tile core leg → IsNextEvent {N = N} image view (event.Step tile core leg)
    seen_leg = next_is_leg image view here id tile core task stands_here runs read_here

-- the event for the least task, while the run goes on
module _ (image : ImageValue) (view : View) (sound : Sound image view) (w : Where)
    (least : (IsOver view → ⊥) × IsLeast view w) where
  is_least : (other : Where) → w ≡ other → IsLeast view other
  is_least other is = subst (IsLeast view) is least.1

  -- a trapped one would end the run
  pub none_trapped : (id : TaskId) → w ≡ where_.Trapped id → ⊥
  none_trapped id is = least.0 (trapped_is_over image view id sound (is_least (where_.Trapped id) is))

  module _ (N : Type 0) where
    pub least_dispatch : (seen : View) → seen ≡ view → (id : TaskId) (tile : ℕ) → w ≡ where_.Idle id
        → ReadsTile seen id tile → IsNextEvent {N = N} image view (event.Dispatch tile)
    least_dispatch seen same id tile is read =
        next_dispatch N image view sound least.0 id tile (is_least (where_.Idle id) is)
        (subst (λ v. ReadsTile v id tile) same read)

    pub least_commit : (id : TaskId) → w ≡ where_.Finished id → IsNextEvent {N = N} image view event.Commit
    least_commit id is = next_commit N image view sound least.0 id (is_least (where_.Finished id) is)

    pub least_split : (tile : ℕ) → w ≡ where_.Spilled tile → IsNextEvent {N = N} image view (event.Split tile)
    least_split tile is = next_split N image view sound least.0 tile (is_least (where_.Spilled tile) is)
