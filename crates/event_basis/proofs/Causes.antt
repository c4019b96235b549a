-- What an event is refused for, with no earlier cause, and when it is granted.
use Rattle.std.proofs.Common.{ℕ, ◌≡◌, ◌≢◌, ◌<◌, ◌⊎◌, inl, inr, [], Some, sym, ap, subst, ◌∙◌, arith}
use Rattle.std.specs.Prelude.{length}
use Rattle.std.specs.Ordering.{ordering_reverse}
use Rattle.std.specs.declared.cmp.Ordering.TheVariants.{Less, Greater}
use Rattle.std.proofs.lemmas.Bool.{cases_eq}
use Rattle.fractal_vt.specs.Keys.{key_cmp}
use Rattle.fractal_vt.proofs.Proved.{key_cmp_total}
use Rattle.guest_image.specs.ImageValue.{ImageValue}
use Rattle.rv_core.specs.LegValue.{LegValue}
use Rattle.task_desc.specs.declared.desc.Spawn.{Spawn}
use Rattle.task_request.specs.declared.request.Request.TheVariants.{Enqueue, End}
use Rattle.event_law.specs.spec_state.declared.task.Status.TheVariants.{Finished}
use Rattle.event_law.specs.spec_state.declared.task.Task.{Task}
use Rattle.event_law.specs.spec_state.View.{View, task_at, block_at, finished_at}
use Rattle.event_law.specs.spec_state.Least.{IsLeastTask, IsLeastSpilled, IsTheLeast}
use Rattle.event_law.specs.spec_state.Queries.{IsDispatched, IsFinished, IsIdle, IsLater, IsLatestDispatched}
use Rattle.event_law.specs.spec_state.Queries.{IsLeastIdle}
use Rattle.event_law.specs.spec_state.Room.{Enqueuer, QueueHasRoom, IsMovable, Stalls}
use Rattle.event_law.specs.spec_state.Changes.{TakesLeg, request_of}
use Rattle.event_law.specs.spec_law.Sound.{Sound}
use Rattle.event_law.proofs.Below.spec_law.Proved.{below_others, one_least_idle}
use Rattle.event_law.specs.event_def.declared.event.Event.TheVariants as event
use Rattle.event_law.specs.event_def.declared.event.Event.{Event}
use Rattle.event_law.specs.event_def.declared.event.Reply.{Reply}
use Rattle.event_law.specs.event_def.declared.event.Reply.TheVariants as reply
use Rattle.event_law.specs.event_def.Book.{BookView, picked_tile}
use Rattle.event_law.specs.event_def.Causes.{Cause, IsBusy, IsGranted, IsRefused, IsStale, LatestIsLeast, StallsAtEnd}
use Rattle.event_law.specs.event_def.Causes.{StallsAtEnqueue, StallsAtSplit, refusal_rank}
use Rattle.event_law.specs.event_def.End.{IsOver}

-- a tile whose least idle task is the least task isn't busy
pub least_is_not_busy : (view : View) (tile id : ℕ) (task : Task) → IsLeastIdle view tile id task → IsTheLeast view id
    → IsBusy view tile → ⊥
least_is_not_busy view tile id task idle least busy =
    busy.not_least (subst (IsTheLeast view) (one_least_idle view tile id busy.id task busy.task idle busy.idle) least)

-- the task that takes a leg on a core is one
pub taker_is_one : (view : View) (tile core a b : ℕ) (leg : LegValue) (x y : Task) → TakesLeg view tile core leg a x
    → TakesLeg view tile core leg b y
    → (a ≡ b) × (x ≡ y)
taker_is_one view tile core a b leg x y one two =
    let held : Some (Some a) ≡ Some (Some b) = sym one.runs.on.held ∙ two.runs.on.held in
    let ids : a ≡ b = cc in
    let there : Some x ≡ Some y = sym one.runs.on.there ∙ (ap (task_at view) ids ∙ two.runs.on.there) in
    let tasks : x ≡ y = cc in
    (ids, tasks)

-- where the latest dispatched task of a tile isn't the least one, none that is the latest is
pub latest_is_not_least : (image : ImageValue) (view : View) (tile v : ℕ) (x : Task) → Sound image view
    → IsLatestDispatched view tile v x
    → (IsTheLeast view v → ⊥) → LatestIsLeast view tile → ⊥
latest_is_not_least image view tile v x sound latest other is = elim (cases_eq v is.id) [
  | inl same ↦ other (subst (IsTheLeast view) (sym same) (is.task, is.least))
  | inr apart ↦
      let below : key_cmp is.task.key x.key ≡ Less =
      below_others view is.id is.task is.least sound.heir sound.order sound.sizes is.latest.of_kind.dispatched v x apart latest.of_kind.there in
      let above : key_cmp x.key is.task.key ≡ Greater = key_cmp_total.antisymm x.key is.task.key ∙ ap ordering_reverse below in
      is.latest.latest v x latest.of_kind above
]

module _ (N : Type 0) (book : BookView) where
  -- the run is over
  pub ended_is_refused : (e : Event N) → IsOver book.view → IsRefused book e reply.Ended
  ended_is_refused e over = record { cause = over; first = λ other low cause. absurd (omega (arith, low)) }

  module _ (going : IsOver book.view → ⊥) where
    -- there is nothing to make the event of
    pub empty_is_refused : (e : Event N) → Cause book e reply.Empty → IsRefused book e reply.Empty
    empty_is_refused e cause = record { cause = cause; first = first }
      where
        first : (other : Reply) → refusal_rank other < 1 → Cause book e other → ⊥
        first reply.Ended low over = going over
        first reply.Ok low is = absurd (omega (arith, low))
        first reply.Empty low is = absurd (omega (arith, low))
        first reply.Busy low is = absurd (omega (arith, low))
        first reply.Stall low is = absurd (omega (arith, low))
        first reply.Stale low is = absurd (omega (arith, low))
        first reply.Firm low is = absurd (omega (arith, low))
        first reply.Memory low is = absurd (omega (arith, low))

    -- a dispatch in a busy tile
    pub busy_is_refused : (tile : ℕ) → IsBusy book.view tile → IsRefused {N = N} book (event.Dispatch tile) reply.Busy
    busy_is_refused tile busy = record { cause = busy; first = first }
      where
        first : (other : Reply) → refusal_rank other < 2 → Cause {N = N} book (event.Dispatch tile) other → ⊥
        first reply.Ended low over = going over
        first reply.Empty low empty = empty busy.id busy.task busy.idle.idle
        first reply.Busy low is = absurd (omega (arith, low))
        first other low is = absurd is

    -- a step that no task takes
    pub stale_is_refused : (tile core : ℕ) (leg : LegValue) → IsStale book.view tile core leg
        → IsRefused {N = N} book (event.Step tile core leg) reply.Stale
    stale_is_refused tile core leg stale = record { cause = stale; first = first }
      where
        first : (other : Reply) → refusal_rank other < 3 → Cause {N = N} book (event.Step tile core leg) other → ⊥
        first reply.Ended low over = going over
        first reply.Stale low is = absurd (omega (arith, low))
        first reply.Stall low is = absurd (omega (arith, low))
        first other low is = absurd is

    -- a step that stalls
    pub stall_is_refused : (tile core : ℕ) (leg : LegValue)
        → StallsAtEnqueue book tile core leg ⊎ StallsAtEnd book.view tile core leg
        → IsRefused {N = N} book (event.Step tile core leg) reply.Stall
    stall_is_refused tile core leg stalls = record { cause = stalls; first = first }
      where
        taken : StallsAtEnqueue book tile core leg ⊎ StallsAtEnd book.view tile core leg
            → IsStale book.view tile core leg → ⊥
        taken (inl stalls') stale = stale stalls'.id stalls'.task stalls'.takes
        taken (inr stalls') stale = stale stalls'.id stalls'.task stalls'.takes

        first : (other : Reply) → refusal_rank other < 5 → Cause {N = N} book (event.Step tile core leg) other → ⊥
        first reply.Ended low over = going over
        first reply.Stale low stale = taken stalls stale
        first reply.Stall low is = absurd (omega (arith, low))
        first other low is = absurd is

    -- an abort of the least task
    pub firm_is_refused : (tile : ℕ) → LatestIsLeast book.view tile
        → IsRefused {N = N} book (event.Abort tile) reply.Firm
    firm_is_refused tile least = record { cause = least; first = first }
      where
        first : (other : Reply) → refusal_rank other < 4 → Cause {N = N} book (event.Abort tile) other → ⊥
        first reply.Ended low over = going over
        first reply.Empty low empty = empty least.id least.task least.latest.of_kind
        first reply.Firm low is = absurd (omega (arith, low))
        first other low is = absurd is

    -- a split that stalls
    pub split_is_refused : (tile : ℕ) → StallsAtSplit book.view tile
        → IsRefused {N = N} book (event.Split tile) reply.Stall
    split_is_refused tile stalls = record { cause = stalls; first = first }
      where
        first : (other : Reply) → refusal_rank other < 5 → Cause {N = N} book (event.Split tile) other → ⊥
        first reply.Ended low over = going over
        first reply.Empty low empty = stalls.some empty
        first reply.Stall low is = absurd (omega (arith, low))
        first other low is = absurd is

    -- a dispatch of an idle task in a tile that isn't busy
    pub dispatch_is_granted : (tile id : ℕ) (task : Task) → IsIdle book.view tile id task
        → (IsBusy book.view tile → ⊥) → IsGranted {N = N} book (event.Dispatch tile)
    dispatch_is_granted tile id task idle not_busy = by_cause
      where
        by_cause : (other : Reply) → Cause {N = N} book (event.Dispatch tile) other → ⊥
        by_cause reply.Ended over = going over
        by_cause reply.Empty empty = empty id task idle
        by_cause reply.Busy busy = not_busy busy
        by_cause other is = absurd is

    -- a step that a task takes, and that doesn't stall
    pub step_is_granted : (tile core id : ℕ) (leg : LegValue) (task : Task) → TakesLeg book.view tile core leg id task
        → (StallsAtEnqueue book tile core leg → ⊥) → (StallsAtEnd book.view tile core leg → ⊥)
        → IsGranted {N = N} book (event.Step tile core leg)
    step_is_granted tile core id leg task takes no_enqueue no_end = by_cause
      where
        by_cause : (other : Reply) → Cause {N = N} book (event.Step tile core leg) other → ⊥
        by_cause reply.Ended over = going over
        by_cause reply.Stale stale = stale id task takes
        by_cause reply.Stall (inl stalls) = no_enqueue stalls
        by_cause reply.Stall (inr stalls) = no_end stalls
        by_cause other is = absurd is

    -- an abort of the latest dispatched task of a tile, which isn't the least one
    pub abort_is_granted : (tile id : ℕ) (task : Task) → IsDispatched book.view tile id task
        → (LatestIsLeast book.view tile → ⊥) → IsGranted {N = N} book (event.Abort tile)
    abort_is_granted tile id task dispatched not_least = by_cause
      where
        by_cause : (other : Reply) → Cause {N = N} book (event.Abort tile) other → ⊥
        by_cause reply.Ended over = going over
        by_cause reply.Empty empty = empty id task dispatched
        by_cause reply.Firm least = not_least least
        by_cause other is = absurd is

    -- a commit of the least task, which is finished
    pub commit_is_granted : (id : ℕ) (task : Task) → IsLeastTask book.view id task → task.status ≡ Finished
        → IsGranted {N = N} book event.Commit
    commit_is_granted id task least finished = by_cause
      where
        by_cause : (other : Reply) → Cause {N = N} book event.Commit other → ⊥
        by_cause reply.Ended over = going over
        by_cause reply.Empty empty = empty id task least finished
        by_cause other is = absurd is

    -- a coalescing of a tile with an idle firm task
    pub coalesce_is_granted : (tile id : ℕ) → IsMovable book.view tile id → IsGranted {N = N} book (event.Coalesce tile)
    coalesce_is_granted tile id moves = by_cause
      where
        by_cause : (other : Reply) → Cause {N = N} book (event.Coalesce tile) other → ⊥
        by_cause reply.Ended over = going over
        by_cause reply.Empty empty = empty id moves
        by_cause other is = absurd is

    -- a split of a block that holds a task, where the task queue has a free place or that task is the least one
    pub split_is_granted : (tile : ℕ) → block_at book.view tile ≢ []
        → QueueHasRoom book.view tile ⊎ IsLeastSpilled book.view tile
        → IsGranted {N = N} book (event.Split tile)
    split_is_granted tile some tried = by_cause
      where
        stalls : QueueHasRoom book.view tile ⊎ IsLeastSpilled book.view tile → StallsAtSplit book.view tile → ⊥
        stalls (inl free) is = let full = is.full in absurd (omega (arith, free, full))
        stalls (inr least) is = is.not_least least

        by_cause : (other : Reply) → Cause {N = N} book (event.Split tile) other → ⊥
        by_cause reply.Ended over = going over
        by_cause reply.Empty empty = some empty
        by_cause reply.Stall is = stalls tried is
        by_cause other is = absurd is

module _ (book : BookView) (tile core id : ℕ) (leg : LegValue) (task : Task) (takes : TakesLeg book.view tile core leg id task) where
  -- whatever stalls in that step asks for what this task does
  asked : (other : ℕ) (x : Task) → TakesLeg book.view tile core leg other x
      → request_of book.view task leg ≡ request_of book.view x leg
  asked other x too =
      ap (λ (t : Task). request_of book.view t leg) (taker_is_one book.view tile core id other leg task x takes too).1

  -- a step that asks for no child doesn't stall at one
  pub no_child_no_stall : ((spawn : Spawn) → request_of book.view task leg ≢ Enqueue spawn)
      → StallsAtEnqueue book tile core leg → ⊥
  no_child_no_stall none stalls = none stalls.spawn (asked stalls.id stalls.task stalls.takes ∙ stalls.asks)

  -- nor does one whose child's tile doesn't
  pub child_no_stall : (spawn : Spawn) → request_of book.view task leg ≡ Enqueue spawn
      → (Stalls book.view (picked_tile book spawn.hint) (Enqueuer id) → ⊥)
      → StallsAtEnqueue book tile core leg → ⊥
  child_no_stall spawn asks free stalls =
      let both : Enqueue spawn ≡ Enqueue stalls.spawn = sym asks ∙ (asked stalls.id stalls.task stalls.takes ∙ stalls.asks) in
      let same : spawn ≡ stalls.spawn = cc in
      let ids = (taker_is_one book.view tile core id stalls.id leg task stalls.task takes stalls.takes).0 in
      free (subst (λ (s : Spawn). Stalls book.view (picked_tile book s.hint) (Enqueuer id)) (sym same)
      (subst (λ k. Stalls book.view (picked_tile book stalls.spawn.hint) (Enqueuer k)) (sym ids) stalls.stalls))

  -- one that is no end call doesn't stall at one
  pub no_end_no_stall : request_of book.view task leg ≢ End → StallsAtEnd book.view tile core leg → ⊥
  no_end_no_stall other stalls = other (asked stalls.id stalls.task stalls.takes ∙ stalls.asks)

  -- nor does one for which the commit queue has a free place
  pub free_no_stall : length (finished_at book.view tile) < book.view.settings.commit_queue
      → StallsAtEnd book.view tile core leg → ⊥
  free_no_stall free stalls = let full = stalls.full in absurd (omega (arith, free, full))

  -- or holds a later task
  pub later_no_stall : (k : ℕ) (x : Task) → IsFinished book.view tile k x → IsLater book.view task k x
      → StallsAtEnd book.view tile core leg → ⊥
  later_no_stall k x finished later stalls =
      let same = (taker_is_one book.view tile core id stalls.id leg task stalls.task takes stalls.takes).1 in
      stalls.none_later k x finished (subst (λ (t : Task). IsLater book.view t k x) same later)
