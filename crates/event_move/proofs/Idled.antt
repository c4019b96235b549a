-- The idle tasks of a tile without a free core.
use Rattle.std.proofs.Common.{ℕ, zero, suc, ◌+◌, ◌≡◌, ◌≤◌, Bool, true, false, List, Option, Some, None, refl, sym}
use Rattle.std.proofs.Common.{ap, subst, ◌∙◌}
use Rattle.std.proofs.Common.{◌<◌, ◌⊎◌, inl, inr, arith, length, slice_get, slice_index_or}
use Rattle.std.specs.Prelude.{Contains, IfSome}
use Rattle.std.specs.Ordering.{is_lt}
use Rattle.std.proofs.lemmas.List.Elements.{Contains-get_or}
use Rattle.std.proofs.lemmas.Option.{slice_get-get_or, slice_get_within}
use Rattle.fractal_vt.specs.Keys.{key_cmp}
use Rattle.guest_image.specs.ImageValue.{ImageValue}
use Rattle.event_prelude.specs.spec_law.Sound.{Sound}
use Rattle.place_policy.specs.Policy.{Policy}
use Rattle.trace_tap.specs.TapValue.{TapValue}
use Rattle.tile_queues.specs.Queue.{AreDistinct}
use Rattle.event_prelude.specs.spec_state.declared.task.Status.{Status}
use Rattle.event_prelude.specs.spec_state.declared.task.Status.TheVariants as status
use Rattle.event_prelude.specs.spec_state.declared.task.Task.{Task}
use Rattle.event_prelude.specs.spec_state.declared.task.TaskId.{TaskId}
use Rattle.event_prelude.specs.spec_state.declared.task.Where.{Where}
use Rattle.event_prelude.specs.spec_state.declared.task.Where.TheVariants as where_
use Rattle.event_prelude.specs.spec_state.Least.{IsLeast, IsTheLeast}
use Rattle.event_prelude.specs.spec_state.Picks.{IsIdleAt, IsIdlePick}
use Rattle.event_prelude.specs.spec_state.Queries.{IsIdle, IsLeastIdle}
use Rattle.event_prelude.specs.spec_state.Stored.{IsStored}
use Rattle.event_prelude.specs.spec_state.View.{View, task_at, queue_at}
use Rattle.event_prelude.proofs.Below.spec_state.Idles.{idle_none, idle_some, keeps_first, no_idle, passes_busy}
use Rattle.event_prelude.proofs.Below.spec_state.Idles.{picks_lesser, picks_only}
use Rattle.event_prelude.specs.event_def.declared.event.Event.TheVariants as event
use Rattle.event_prelude.specs.event_def.declared.event.Reply.{Reply}
use Rattle.event_prelude.specs.event_def.declared.event.Reply.TheVariants as replies
use Rattle.event_prelude.specs.event_def.Book.{book_of}
use Rattle.event_prelude.specs.event_def.Causes.{AllCoresHeld, Cause, IsBusy, IsRefused, refusal_rank}
use Rattle.event_prelude.specs.event_def.End.{IsOver}
use Rattle.event_prelude.proofs.Below.event_basis.Proved.{least_idle, least_where}
use Rattle.event_move.specs.Idling.{NoIdleIsLeast}

-- a task is idle, or it isn't
idle_or_not : (s : Status) → (s ≡ status.Idle) ⊎ (s ≡ status.Idle → ⊥)
idle_or_not status.Idle = inl refl
idle_or_not (status.Running core) = inr (λ e. cc)
idle_or_not (status.Trapped core cause) = inr (λ e. cc)
idle_or_not status.Finished = inr (λ e. cc)

module _ (view : View) (ids : List ℕ) where
  -- the tasks at the first places, so many, have a least idle one, or none is idle
  abbrev Picked : ℕ → Type 0
  Picked count = (best : Option TaskId) × IsIdlePick view ids count best

  module _ (count id : ℕ) (task : Task) (at : slice_get ids count ≡ Some id) (there : task_at view id ≡ Some task)
      (idle : task.status ≡ status.Idle) where
    lesser : (b : TaskId) (was : IsIdlePick view ids count (Some b)) (less : Bool)
        → is_lt (key_cmp task.key was.task.key) ≡ less → Picked (count + 1)
    lesser b was true less =
        let next = picks_lesser view ids count id task at there b.0 was.task was was.idle.there idle less in
        (Some (record { 0 = id }), next)
    lesser b was false less =
        (Some b, keeps_first view ids count id task at there b.0 was.task was was.idle.there (λ waits. less))

    with_idle : Picked count → Picked (count + 1)
    with_idle (None, was) = (Some (record { 0 = id }), picks_only view ids count id task at there idle was)
    with_idle (Some b, was) = lesser b was (is_lt (key_cmp task.key was.task.key)) refl

  without_idle : (count id : ℕ) (task : Task) → slice_get ids count ≡ Some id → task_at view id ≡ Some task
      → (task.status ≡ status.Idle → ⊥) → Picked count → Picked (count + 1)
  without_idle count id task at there busy (None, was) =
      (None, passes_busy view ids count id task at there busy was)
  without_idle count id task at there busy (Some b, was) = (
    Some b,
    keeps_first view ids count id task at there b.0 was.task was was.idle.there (λ idle. absurd (busy idle)),
  )

  picked_more : (count id : ℕ) (task : Task) → slice_get ids count ≡ Some id → task_at view id ≡ Some task
      → Picked count → Picked (count + 1)
  picked_more count id task at there was = elim (idle_or_not task.status) [
    | inl idle ↦ with_idle count id task at there idle was
    | inr busy ↦ without_idle count id task at there busy was
  ]

  picked : ((id : ℕ) → Contains ids id → (task : Task) × (task_at view id ≡ Some task)) → (count : ℕ)
      → count ≤ length ids → Picked count
  picked live zero upto = (None, no_idle view ids)
  picked live (suc n) upto =
      let lt : n < length ids = omega (arith, upto) in
      let own = live (slice_index_or ids n 0) (Contains-get_or ids n 0 lt) in
      subst Picked (omega arith)
      (picked_more n (slice_index_or ids n 0) own.0 (slice_get-get_or ids n 0 lt) own.1
      (picked live n (omega (arith, upto))))

module _ (size : ℕ) (view : View) (stored : IsStored size view) (tile : ℕ) (ids : List ℕ)
    (are : ids ≡ queue_at view tile) (distinct : AreDistinct ids) where
  own_task : (id : ℕ) → Contains ids id → (task : Task) × (task_at view id ≡ Some task)
  own_task id has =
      let own = (stored.queued_are tile id).0 (subst (λ (ns : List ℕ). Contains ns id) are has) in (own.0, own.1)

  found_least : (best : Option TaskId) → IsIdlePick view ids (length ids) best → (place id : ℕ) (task : Task)
      → IsIdleAt view ids place id task → (k : ℕ) × (x : Task) × IsLeastIdle view tile k x
  found_least None none place id task at =
      absurd (none place id task (slice_get_within ids place id at.id_at) at)
  found_least (Some k) is place id task at =
      let least = idle_some view tile ids are distinct (length ids) (omega arith) (Some k) is in (k.0, least.0, least.1)

  -- where one was found, the tile has a least one
  pub idle_found : (place id : ℕ) × (task : Task) × IsIdleAt view ids place id task
      → (id : ℕ) × (task : Task) × IsLeastIdle view tile id task
  idle_found found =
      let all = picked view ids own_task (length ids) (omega arith) in
      found_least all.0 all.1 found.0 found.1 found.2 found.3

  -- where none was found, none is idle
  pub none_found : IsIdlePick view ids (length ids) None → (id : ℕ) (task : Task) → IsIdle view tile id task → ⊥
  none_found none = (idle_none view tile ids are distinct (length ids) (omega arith) None none).0 refl

-- an idle task that is the least one stands so
idle_stands : (view : View) (least : Where) → IsLeast view least → (tile id : ℕ) (task : Task)
    → IsIdle view tile id task → IsTheLeast view id → (k : TaskId) × (least ≡ where_.Idle k) × (k.0 ≡ id)
idle_stands view (where_.Idle k) is tile id task idle least =
    let one = (least_where view (where_.Idle k) id is).0 least in
    let same : k.0 ≡ id = cc in (k, refl, same)
idle_stands view (where_.Running k) is tile id task idle least =
    let one = (least_where view (where_.Running k) id is).0 least in
    let same : k.0 ≡ id = cc in
    let both : Some is.0 ≡ Some task = sym is.2.queued_at.there ∙ (ap (task_at view) same ∙ idle.there) in
    let own : is.0 ≡ task = cc in
    let stands : status.Running is.1 ≡ status.Idle = sym is.3 ∙ (ap (λ (t : Task). t.status) own ∙ idle.idle) in
    absurd (cc (stands))
idle_stands view (where_.Trapped k) is tile id task idle least =
    let one = (least_where view (where_.Trapped k) id is).0 least in
    let same : k.0 ≡ id = cc in
    let both : Some is.0 ≡ Some task = sym is.3.queued_at.there ∙ (ap (task_at view) same ∙ idle.there) in
    let own : is.0 ≡ task = cc in
    let stands : status.Trapped is.1 is.2 ≡ status.Idle = sym is.4 ∙ (ap (λ (t : Task). t.status) own ∙ idle.idle) in
    absurd (cc (stands))
idle_stands view (where_.Finished k) is tile id task idle least =
    let one = (least_where view (where_.Finished k) id is).0 least in
    let same : k.0 ≡ id = cc in
    let both : Some is.0 ≡ Some task = sym is.1.queued_at.there ∙ (ap (task_at view) same ∙ idle.there) in
    let own : is.0 ≡ task = cc in
    let stands : status.Finished ≡ status.Idle = sym is.2 ∙ (ap (λ (t : Task). t.status) own ∙ idle.idle) in
    absurd (cc (stands))
idle_stands view (where_.Spilled other) is tile id task idle least =
    let one = (least_where view (where_.Spilled other) id is).0 least in absurd (cc (one))

-- the tile that is read of the task of this id
abbrev pub ReadsTile : View → TaskId → ℕ → Type 0
ReadsTile view id tile = IfSome (task_at view id.0) (λ t. tile ≡ t.tile)

tile_is : (view : View) (id : TaskId) (tile : ℕ) (task : Task) → task_at view id.0 ≡ Some task
    → ReadsTile view id tile → tile ≡ task.tile
tile_is view id tile task there read = subst (λ o. IfSome o (λ (t : Task). tile ≡ t.tile)) there read

-- an idle least task of another tile is the least idle one of none of this tile
pub idle_elsewhere : (size : ℕ) (view : View) → IsStored size view → (tile : ℕ) (k : TaskId)
    → IsLeast view (where_.Idle k) → (at : ℕ) → ReadsTile view k at → (at ≡ tile → ⊥) → NoIdleIsLeast view tile
idle_elsewhere size view stored tile k is at read other id task idle least =
    let stands = idle_stands view (where_.Idle k) is tile id task idle least in
    let same : k.0 ≡ id = ap idle_id stands.1 ∙ stands.2 in
    let own = (stored.queued_are tile id).0 idle.queued in
    let both : Some task ≡ Some own.0 = sym idle.there ∙ own.1 in
    let one : task ≡ own.0 = cc in
    other (tile_is view k at task (ap (task_at view) same ∙ idle.there) read ∙ (ap (λ (t : Task). t.tile) one ∙ own.2))
  where
    idle_id : Where → ℕ
    idle_id (where_.Idle x) = x.0
    idle_id other = 0

-- where the least task isn't idle, no idle task is the least one
pub none_is_idle : (view : View) (least : Where) → IsLeast view least → ((k : TaskId) → least ≡ where_.Idle k → ⊥)
    → (tile : ℕ) → NoIdleIsLeast view tile
none_is_idle view least is not tile id task idle the =
    let stands = idle_stands view least is tile id task idle the in not stands.0 stands.1

-- an idle least task of a tile is its least idle one
pub idle_here : (image : ImageValue) (view : View) → Sound image view → (k : TaskId) → IsLeast view (where_.Idle k)
    → (tile : ℕ) → ReadsTile view k tile → ((task : Task) × IsLeastIdle view tile k.0 task) × IsTheLeast view k.0
idle_here image view sound k is tile read = (
  (
    is.0,
    subst (λ t. IsLeastIdle view t k.0 is.0) (sym (tile_is view k tile is.0 is.1.queued_at.there read))
        (least_idle image view k.0 is.0 sound is.1 is.2),
  ),
  (is.0, is.1),
)

-- a tile without a free core that has a least idle task is busy, where no idle task of it is the least one
pub is_busy : (view : View) (tile : ℕ) → AllCoresHeld view tile → NoIdleIsLeast view tile
    → (id : ℕ) × (task : Task) × IsLeastIdle view tile id task → IsBusy view tile
is_busy view tile held other least = record {
  held = held;
  id = least.0;
  task = least.1;
  idle = least.2;
  not_least = other least.0 least.1 least.2.idle;
}

-- a dispatch of a busy tile is refused so
pub busy_is_refused : (N : Type 0) (view : View) → (IsOver view → ⊥) → (tile : ℕ) → IsBusy view tile
    → (placers : List Policy) (taps : List TapValue) (steps : ℕ)
    → IsRefused {N = N} (book_of view placers taps steps) (event.Dispatch tile) replies.Busy
busy_is_refused N view going tile busy placers taps steps = record { cause = busy; first = first }
  where
    first : (other : Reply) → refusal_rank other < 2
        → Cause {N = N} (book_of view placers taps steps) (event.Dispatch tile) other → ⊥
    first replies.Ended low cause = going cause
    first replies.Empty low cause = cause busy.id busy.task busy.idle.idle
    first replies.Busy low cause = omega (arith, low)
    first replies.Stale low cause = cause
    first replies.Firm low cause = cause
    first replies.Stall low cause = cause
    first replies.Memory low cause = cause
    first replies.Ok low cause = cause
