-- The event for the least task is never refused.
use Rattle.std.proofs.Common.{ℕ, ◌≡◌, ◌≢◌, ◌≤◌, inl, inr, true, List, [], Some, refl, sym, ap, subst, ◌∙◌, arith}
use Rattle.std.specs.Prelude.{length, Contains, slice_get}
use Rattle.std.proofs.lemmas.Bool.{cases_eq}
use Rattle.std.specs.Ordering.{ordering_reverse}
use Rattle.std.specs.declared.cmp.Ordering.TheVariants.{Less, Greater}
use Rattle.guest_image.specs.ImageValue.{ImageValue}
use Rattle.rv_core.specs.LegValue.{LegValue}
use Rattle.event_def.specs.spec_state.declared.task.Status.{Status}
use Rattle.event_def.specs.spec_state.declared.task.Status.TheVariants.{Idle, Running, Finished}
use Rattle.event_def.specs.spec_state.declared.task.Task.{Task}
use Rattle.event_def.specs.spec_state.View.{View, task_at, queue_at, block_at, cores_at, finished_at}
use Rattle.event_def.specs.spec_state.Tasks.{is_dispatched}
use Rattle.event_def.specs.spec_state.Least.{Queued, IsQueuedAt, IsLeastTask, ranked_cmp}
use Rattle.event_def.specs.spec_state.Queries.{IsIdle, IsFinished, IsLater}
use Rattle.event_def.specs.spec_state.Changes.{TakesLeg}
use Rattle.event_def.specs.spec_state.Stored.{HasCore}
use Rattle.spec_law.specs.Sound.{Sound, SoundSizes, StandsAs}
use Rattle.spec_law.proofs.Proved.{below_others, get_contains, least_key, queued_at, ranked_turned, some_in}
use Rattle.event_def.specs.declared.event.Event.{Event}
use Rattle.event_def.specs.declared.event.Event.TheVariants as event
use Rattle.event_def.specs.declared.event.Reply.{Reply}
use Rattle.event_def.specs.declared.event.Reply.TheVariants as replies
use Rattle.event_def.specs.Advancing.{IsLeastLeg, IsNextEvent}
use Rattle.event_def.specs.Book.{BookView}
use Rattle.event_def.specs.Causes.{Cause, IsBusy, StallsAtEnd, StallsAtEnqueue}
use Rattle.event_law.specs.Laws.{LeastEventIsGranted}
use Rattle.event_law.proofs.Keeps.Forced.{running_is_dispatched}

-- a block that holds something isn't empty
some_not_none : {X : Type 0} (xs : List X) (k : ℕ) (x : X) → slice_get xs k ≡ Some x → xs ≡ [] → ⊥
some_not_none xs k x at none = absurd (cc (ap (λ list. slice_get list k) none, at))

-- the least task, where it is idle, is an idle task of its tile
pub is_idle : (view : View) (tile id : ℕ) (task : Task) → IsLeastTask view id task → task.status ≡ Idle
    → task.tile ≡ tile → IsIdle view tile id task
is_idle view tile id task least idle there = record {
  queued = subst (λ t. Contains (queue_at view t) id) there
      (get_contains (queue_at view task.tile) least.place id least.queued_at.queued);
  there = least.queued_at.there;
  idle = idle;
}

module _ (view : View) (sizes : SoundSizes view) (tile id : ℕ) (task : Task) (least : IsLeastTask view id task) where
  -- a tile where the least task is idle isn't busy
  pub not_busy : task.status ≡ Idle → task.tile ≡ tile → IsBusy view tile → ⊥
  not_busy idle there busy = elim (cases_eq id busy.id) [
    | inl same ↦ busy.not_least (task, subst (λ k. IsLeastTask view k task) same least)
    | inr other ↦
        let low = queued_at view sizes busy.id busy.task busy.idle.idle.there in
        let tile_is : busy.task.tile ≡ tile =
        (let has = (sizes.queued_are tile busy.id).0 busy.idle.idle.queued in
        let both : Some has.0 ≡ Some busy.task = sym has.1 ∙ busy.idle.idle.there in
        let is : has.0 ≡ busy.task = cc in
        ap (λ (t : Task). t.tile) (sym is) ∙ has.2) in
        let low_at : IsQueuedAt view tile low.0 busy.id busy.task = subst (λ t. IsQueuedAt view t low.0 busy.id busy.task) tile_is low.1 in
        let at : IsQueuedAt view tile least.place id task = subst (λ t. IsQueuedAt view t least.place id task) there least.queued_at in
        let before : ranked_cmp busy.task.key (Queued tile low.0) task.key (Queued tile least.place) ≡ Less =
        busy.idle.least id task other (is_idle view tile id task least idle there) low.0 least.place busy.task task low_at at in
        let above : ranked_cmp task.key (Queued tile least.place) busy.task.key (Queued tile low.0) ≡ Greater =
        ranked_turned task.key (Queued tile least.place) busy.task.key (Queued tile low.0)
        ∙ ap ordering_reverse before in
        let whole : ranked_cmp least.least.key (Queued task.tile least.place) busy.task.key (Queued tile low.0) ≡ Greater =
        (λ i. ranked_cmp (least_key view id task least i) (Queued (there i) least.place) busy.task.key (Queued tile low.0))
        ∙ above in
        least.least.least (Queued tile low.0) busy.task.key (busy.id, busy.task, low_at, refl) whole
  ]

module _ (image : ImageValue) (view : View) (sound : Sound image view) (tile core : ℕ) (leg : LegValue) (next : IsLeastLeg image view tile core leg) where
  -- the core of the least task holds it
  pub least_held : slice_get (cores_at view tile) core ≡ Some (Some next.id)
  least_held =
      let holds : HasCore next.task.status core = subst (λ (s : Status). HasCore s core) (sym next.runs) refl in
      (sound.sizes.held_are tile core next.id).1 (next.task, next.least.queued_at.there, next.there, holds)

  -- so it takes the leg
  pub least_takes : TakesLeg view tile core leg next.id next.task
  least_takes = record {
    runs = record { on = record { held = least_held; there = next.least.queued_at.there }; running = next.runs };
    from = sym next.runs_on.from;
  }

  -- and whatever takes the leg is the least task
  pub taker_is : (id : ℕ) (task : Task) → TakesLeg view tile core leg id task → id ≡ next.id
  taker_is id task takes =
      let both : Some (Some id) ≡ Some (Some next.id) = sym takes.runs.on.held ∙ least_held in
      cc

  -- and it is the same task
  pub taken_is : (id : ℕ) (task : Task) → TakesLeg view tile core leg id task → task ≡ next.task
  taken_is id task takes =
      let both : Some task ≡ Some next.task = sym takes.runs.on.there ∙ (ap (task_at view) (taker_is id task takes) ∙ next.least.queued_at.there) in
      cc

  -- the least task is dispatched
  pub least_runs : is_dispatched next.task ≡ true
  least_runs = running_is_dispatched image view sound next.id core next.task next.least.queued_at.there next.runs

  -- a finished task is dispatched
  finished_dispatched : (k : ℕ) (x : Task) → task_at view k ≡ Some x → x.status ≡ Finished → is_dispatched x ≡ true
  finished_dispatched k x there finished =
      let stands : StandsAs image view.version view.settings.budget x Finished = subst (StandsAs image view.version view.settings.budget x) finished (sound.tasks.stands k x there) in
      stands.0

  -- a finished task of the tile is later than the least one, which runs
  finished_is_later : (k : ℕ) → Contains (finished_at view tile) k
      → (x : Task) × IsFinished view tile k x × IsLater view next.task k x
  finished_is_later k has =
      let is = (sound.sizes.finished_are tile k).0 has in
      let apart : k ≢ next.id = λ same.
      (let both : Some is.0 ≡ Some next.task = sym is.1 ∙ (ap (task_at view) same ∙ next.least.queued_at.there) in
      let one : is.0 ≡ next.task = cc in
      let no_way : Finished ≡ Running core = sym is.3 ∙ (ap (λ (t : Task). t.status) one ∙ next.runs) in
      absurd (cc (no_way))) in (
        is.0,
        record { queued = has; there = is.1 },
        record {
          there = is.1;
          dispatched = finished_dispatched k is.0 is.1 is.3;
          later =
              below_others view next.id next.task next.least sound.heir sound.order sound.sizes least_runs k is.0 apart is.1;
        },
      )

  -- the end call of the least task doesn't stall
  pub no_stall_at_end : StallsAtEnd view tile core leg → ⊥
  no_stall_at_end stalls =
      let one : 1 ≤ view.settings.commit_queue = sound.sizes.settings.commit_queue.0 in
      let full : view.settings.commit_queue ≤ length (finished_at view tile) = stalls.full in
      let some = some_in (finished_at view tile) (omega (arith, one, full)) in
      let later = finished_is_later some.0 some.1 in
      let is = taken_is stalls.id stalls.task stalls.takes in
      stalls.none_later some.0 later.0 later.1 (subst (λ (t : Task). IsLater view t some.0 later.0) (sym is) later.2)

-- an enqueue of the least task doesn't stall
no_stall_at_enqueue : (image : ImageValue) (book : BookView) → Sound image book.view → (tile core : ℕ) (leg : LegValue)
    → IsLeastLeg image book.view tile core leg
    → StallsAtEnqueue book tile core leg → ⊥
no_stall_at_enqueue image book sound tile core leg next stalls =
    stalls.stalls.not_least (
      next.task,
      subst (λ k. IsLeastTask book.view k next.task)
          (sym (taker_is image book.view sound tile core leg next stalls.id stalls.task stalls.takes)) next.least,
    )

module _ (N : Type 0) (image : ImageValue) (old : BookView) (sound : Sound image old.view) where
  -- by the event and the reply
  granted : (event : Event N) (reply : Reply) → IsNextEvent image old.view event → Cause old event reply → ⊥
  granted (event.Abort tile) reply next cause = absurd next.least
  granted (event.Coalesce tile) reply next cause = absurd next.least
  granted (event.Split tile) replies.Ended next cause = absurd (next.goes_on cause)
  granted (event.Split tile) replies.Empty next cause =
      absurd (some_not_none (block_at old.view tile) next.least.place next.least.least.has.0 next.least.least.has.1 cause)
  granted (event.Split tile) replies.Stall next cause = absurd (cause.not_least next.least)
  granted (event.Dispatch tile) replies.Ended next cause = absurd (next.goes_on cause)
  granted (event.Dispatch tile) replies.Empty next cause =
      let least = next.least in
      absurd (cause least.0 least.1 (is_idle old.view tile least.0 least.1 least.2 least.3 least.4))
  granted (event.Dispatch tile) replies.Busy next cause =
      let least = next.least in
      absurd (not_busy old.view sound.sizes tile least.0 least.1 least.2 least.3 least.4 cause)
  granted (event.Step tile core leg) replies.Ended next cause = absurd (next.goes_on cause)
  granted (event.Step tile core leg) replies.Stale next cause =
      let least : IsLeastLeg image old.view tile core leg = next.least in
      absurd (cause least.id least.task (least_takes image old.view sound tile core leg least))
  granted (event.Step tile core leg) replies.Stall next (inl stalls) =
      absurd (no_stall_at_enqueue image old sound tile core leg next.least stalls)
  granted (event.Step tile core leg) replies.Stall next (inr stalls) =
      absurd (no_stall_at_end image old.view sound tile core leg next.least stalls)
  granted event.Commit replies.Ended next cause = absurd (next.goes_on cause)
  granted event.Commit replies.Empty next cause =
      let least = next.least in absurd (cause least.0 least.1 least.2 least.3)
  granted event reply next cause = absurd cause

-- the event for the least task is never refused
pub least_event_is_granted : (N : Type 0) → LeastEventIsGranted N
least_event_is_granted N image old event sound next = λ reply cause. granted N image old sound event reply next cause
