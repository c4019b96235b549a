-- The view's firm tasks, movable tasks and victims are those of the laws of room.
use Rattle.std.proofs.Common.{◌≡◌, ◌⊎◌, ℕ, zero, suc, ◌<◌, false, List, [], ◌∷◌, length, Contains, Option, Some, None}
use Rattle.std.proofs.Common.{option_map, refl, sym, ap, subst, ◌∙◌, inl, inr, arith, slice_get, slice_index_or}
use Rattle.std.proofs.lemmas.Bool.{cases_eq}
use Rattle.std.proofs.lemmas.Cmp.{tied_itself}
use Rattle.std.proofs.lemmas.Option.{slice_get_read}
use Rattle.std.specs.declared.cmp.Ordering.TheVariants.{Greater}
use Rattle.fractal_vt.proofs.Proved.{first_not_greater, key_cmp_total, mapped_some}
use Rattle.fractal_vt.specs.Keys.{levels, key_cmp}
use Rattle.fractal_vt.specs.Levels.{levels_cmp}
use Rattle.guest_image.specs.ImageValue.{ImageValue}
use Rattle.spec_state.specs.task_law.Room as room
use Rattle.spec_state.specs.task_law.Tasks.{In}
use Rattle.spec_state.specs.declared.task.Creator.{Creator}
use Rattle.spec_state.specs.declared.task.Creator.TheVariants.{Committed, Live}
use Rattle.spec_state.specs.declared.task.Status.{Status}
use Rattle.spec_state.specs.declared.task.Status.TheVariants.{Idle, Running, Trapped, Finished}
use Rattle.spec_state.specs.declared.task.Task.{Task}
use Rattle.spec_state.specs.View.{View, task_at, queue_at}
use Rattle.spec_state.specs.Tasks.{is_dispatched}
use Rattle.spec_state.specs.Groups.{live_creator, room_task}
use Rattle.spec_state.specs.Least.{Queued, IsQueuedAt, spot_cmp, IsHeir, IsFirm}
use Rattle.spec_state.specs.Queries.{IsQueued}
use Rattle.spec_state.specs.Room.{Asker, Enqueuer, Splitter}
use Rattle.spec_law.specs.RoomLaws.{FirmIsFirm, MovableIsMovable, VictimIsVictim, asking_task}
use Rattle.spec_law.specs.Sound.{StandsAs}
use Rattle.spec_law.proofs.Tasks.Ranked.{least_is_one}

-- an element, found at a place, stands in the list
in_list : {X : Type 0} (xs : List X) (x : X) (k : ℕ) → k < length xs → slice_index_or xs k x ≡ x → In x xs
in_list [] x k low is = absurd (omega (arith, low))
in_list (y ∷ xs) x zero low is = inl (sym is)
in_list (y ∷ xs) x (suc k) low is = inr (in_list xs x k (omega (arith, low)) is)

-- the two words for an element of a list say the same
pub contains_in : {X : Type 0} (xs : List X) (x : X) → Contains xs x → In x xs
contains_in xs x at = in_list xs x at.0 at.1 at.2

pub in_contains : {X : Type 0} (xs : List X) (x : X) → In x xs → Contains xs x
in_contains [] x at = absurd at
in_contains (y ∷ xs) x (inl here) = (zero, omega arith, sym here)
in_contains (y ∷ xs) x (inr later) =
    let more = in_contains xs x later in
    (suc more.0, (let low : more.0 < length xs = more.1 in omega (arith, low)), more.2)

-- the task that spots of one queue place hold is one
queued_is : (view : View) (tile place other_tile other_place id other : ℕ) (task x : Task)
    → Queued tile place ≡ Queued other_tile other_place
    → IsQueuedAt view tile place id task → IsQueuedAt view other_tile other_place other x → id ≡ other
queued_is view tile place other_tile other_place id other task x same one two =
    let tiles : tile ≡ other_tile = cc in
    let places : place ≡ other_place = cc in
    let both : Some id ≡ Some other = sym one.queued ∙ ap (λ t. slice_get (queue_at view t) place) tiles ∙ ap (slice_get (queue_at view other_tile)) places ∙ two.queued in
    let ids : id ≡ other = cc in
    ids

-- there is one heir
pub heirs_are_one : (view : View) (heir : Option ℕ) (id : ℕ) → IsHeir view heir → IsHeir view (Some id) → heir ≡ Some id
heirs_are_one view None id none is = absurd (none id is.0 is.1 is.2)
heirs_are_one view (Some other) id one is =
    let same = least_is_one view _ _ one.1.least is.1.least in
    ap Some (queued_is view one.0.tile one.1.place is.0.tile is.1.place other id one.0 is.0 same one.1.queued_at
    is.1.queued_at)

-- a firm task is one for the laws of room, and the other way round
firm_to : (view : View) (heir : Option ℕ) → IsHeir view heir → (task : Task) → IsFirm view task
    → room.IsFirmInQueue heir (room_task task)
firm_to view heir is task (inl committed) = inl (ap live_creator committed.2)
firm_to view heir is task (inr child) =
    inr (child.0, ap live_creator child.2, heirs_are_one view heir child.0 is child.3)

firm_from : (view : View) (heir : Option ℕ) → IsHeir view heir → (task : Task)
    → room.IsFirmInQueue heir (room_task task) → IsFirm view task
firm_from view heir is task firm = by_creator task.creator refl firm
  where
    by_creator : (c : Creator) → task.creator ≡ c
        → (live_creator c ≡ None) ⊎ ((l : ℕ) × (live_creator c ≡ Some l) × (heir ≡ Some l)) → IsFirm view task
    by_creator (Committed turn index) e firm' = inl (turn, index, e)
    by_creator (Live made_by index) e (inl none) = absurd (cc (none))
    by_creator (Live made_by index) e (inr child) =
        let both : Some made_by.0 ≡ Some child.0 = child.1 in
        inr (made_by.0, index, e, subst (IsHeir view) (child.2 ∙ sym both) is)

pub firm_is_firm : FirmIsFirm
firm_is_firm image view sound task =
    (firm_to view sound.heir sound.is_heir task, firm_from view sound.heir sound.is_heir task)

-- an idle task of a sound view has no dispatch number
idle_is_open : (image : ImageValue) (view : View) (task : Task)
    → StandsAs image view.version view.settings.budget task task.status → task.status ≡ Idle
    → is_dispatched task ≡ false
idle_is_open image view task stands idle =
    let is = subst (StandsAs image view.version view.settings.budget task) idle stands in ap is_dispatched is

-- a task of a sound view without a dispatch number is idle
open_is_idle : (image : ImageValue) (view : View) (task : Task) (status : Status)
    → StandsAs image view.version view.settings.budget task status → is_dispatched task ≡ false → status ≡ Idle
open_is_idle image view task Idle stands open' = refl
open_is_idle image view task (Running core) stands open' = absurd (cc (stands.0, open'))
open_is_idle image view task (Trapped core cause) stands open' = absurd (cc (stands.0, open'))
open_is_idle image view task Finished stands open' = absurd (cc (stands.0, open'))

pub movable_is_movable : MovableIsMovable
movable_is_movable image view sound tile id = (
  λ moves. (
    contains_in (queue_at view tile) id moves.1.idle.queued,
    room_task moves.0,
    ap (option_map room_task) moves.1.idle.there,
    idle_is_open image view moves.0 (sound.tasks.stands id moves.0 moves.1.idle.there) moves.1.idle.idle,
    firm_to view sound.heir sound.is_heir moves.0 moves.1.firm,
  ),
  λ moves.
      let from = mapped_some room_task (task_at view id) moves.1 moves.2 in (
        from.0,
        record {
          idle = record {
            queued = in_contains (queue_at view tile) id moves.0;
            there = from.1;
            idle =
                open_is_idle image view from.0 from.0.status (sound.tasks.stands id from.0 from.1) (sym (ap (λ w. w.dispatched) from.2) ∙ moves.3);
          };
          firm = firm_from view sound.heir sound.is_heir from.0 (subst (room.IsFirmInQueue sound.heir) from.2 moves.4);
        },
      ),
)

-- an id of a tile's queue stands at some place of it
queued_place : (view : View) (tile id : ℕ) (task : Task) → IsQueued view tile id → task_at view id ≡ Some task
    → (place : ℕ) × IsQueuedAt view tile place id task
queued_place view tile id task queued there = (
  queued.0,
  record { queued = slice_get_read (queue_at view tile) (length (queue_at view tile)) queued.0 id refl queued.1 (sym queued.2); there = there },
)

-- who asks under an id is that task
asks_under : (asker : Asker) (id : ℕ) → asking_task asker ≡ Some id → asker ≡ Enqueuer id
asks_under (Enqueuer k) id is = let same : k ≡ id = cc in ap Enqueuer same
asks_under Splitter id is = absurd (cc (is))

pub victim_is_victim : VictimIsVictim
victim_is_victim view tile asker id task victim = record {
  there = ap (option_map room_task) victim.there;
  queued = contains_in (queue_at view tile) id victim.queued;
  other = λ is. victim.other (asks_under asker id is);
  latest = λ k w at other there above.
      let from = mapped_some room_task (task_at view k) w there in
      let greater : key_cmp from.0.key task.key ≡ Greater = sym (ap (λ z. levels_cmp z.levels (levels task.key)) from.2) ∙ above in
      elim (cases_eq k id) [
        | inl here ↦
            let both : Some from.0 ≡ Some task = sym from.1 ∙ ap (task_at view) here ∙ victim.there in
            let same : from.0 ≡ task = cc in
            absurd (cc (greater, ap (λ t. key_cmp t.key task.key) same, tied_itself key_cmp_total task.key))
        | inr apart ↦
            let queued = in_contains (queue_at view tile) k at in
            let p = queued_place view tile k from.0 queued from.1 in
            let q = queued_place view tile id task victim.queued victim.there in
            let less = victim.last k apart (λ is. other (ap asking_task is)) queued p.0 q.0 from.0 task p.1 q.1 in
            first_not_greater (key_cmp from.0.key task.key) (spot_cmp (Queued tile p.0) (Queued tile q.0)) (λ e. absurd (cc (less, e))) greater
      ];
}
