-- Whatever event is made for another task, a dispatched least task stays the least one, and stands as it did.
use Rattle.std.proofs.Common.{ℕ, ◌/◌, ◌≡◌, ◌≢◌, ◌⊎◌, ◌<◌, List, [], ◌∷◌, ◌++◌, Bool, true}
use Rattle.std.proofs.Common.{false, Some, None, refl, sym, ap}
use Rattle.std.proofs.Common.{subst, ◌∙◌, arith, inl, inr, length}
use Rattle.std.proofs.lemmas.Bool.{cases_eq}
use Rattle.std.proofs.lemmas.Cmp.{tied_itself}
use Rattle.std.specs.declared.cmp.Ordering.TheVariants.{Less, Equal}
use Rattle.fractal_vt.specs.Keys.{key_cmp}
use Rattle.fractal_vt.proofs.Proved.{key_cmp_total}
use Rattle.guest_image.specs.ImageValue.{ImageValue}
use Rattle.place_policy.specs.Policy.{Policy}
use Rattle.rv_core.specs.declared.state.Core.{Core}
use Rattle.undo_log.specs.Undo.{MemoryCall, access_of}
use Rattle.rv_core.specs.LegValue.{IsLegOfImage, LegValue}
use Rattle.task_request.specs.declared.request.Request.{Request}
use Rattle.task_request.specs.declared.request.Request.TheVariants as requests
use Rattle.task_request.specs.Requests.{request_at}
use Rattle.task_desc.specs.declared.desc.Spawn.{Spawn}
use Rattle.watch_counts.specs.spec_state.declared.numbers.TheConstants.{DISPATCH_NUMBERS}
use Rattle.watch_counts.specs.spec_state.declared.task.Status.TheVariants.{Idle, Finished, Trapped}
use Rattle.watch_counts.specs.spec_state.declared.task.Task.{Task}
use Rattle.watch_counts.specs.spec_state.Aborts.{Aborts}
use Rattle.watch_counts.specs.spec_state.Changes.{Accesses, Dispatches, Finishes, Keeps}
use Rattle.watch_counts.specs.spec_state.Changes.{TakesLeg, request_of, task_past_leg}
use Rattle.watch_counts.specs.spec_state.Least.{IsHeir, IsLeastSpilled, IsTheLeast}
use Rattle.watch_counts.specs.spec_state.Numbers.{FreesNumber, has_free, renumbered_task, renumbers}
use Rattle.watch_counts.specs.spec_state.Room.{Asker, Enqueuer, IsLeastAsker, MakesRoom}
use Rattle.watch_counts.specs.spec_state.Room.{Splits, Splitter, aborts_creator}
use Rattle.watch_counts.specs.spec_state.Room.{aborts_victim, asker_of, coalesces, queue_has_room}
use Rattle.watch_counts.specs.spec_state.Tasks.{context_of, is_dispatched}
use Rattle.watch_counts.specs.spec_state.View.{View, task_at}
use Rattle.watch_counts.specs.spec_law.Keeping.{AsksAt}
use Rattle.watch_counts.specs.spec_law.RoomLaws.{child_of}
use Rattle.watch_counts.specs.spec_law.Sound.{Sound, SoundOrder}
use Rattle.watch_counts.specs.event_def.declared.event.Event.{Event}
use Rattle.watch_counts.specs.event_def.declared.event.Event.TheVariants as event
use Rattle.watch_counts.specs.event_def.declared.event.Reply.TheVariants as reply
use Rattle.watch_counts.specs.event_def.Book.{BookView, picked_tile}
use Rattle.watch_counts.specs.event_def.Causes.{AllCoresHeld, IsGranted}
use Rattle.watch_counts.specs.event_def.Events.{DispatchEvent, EndEvent, EnqueueEvent, FreesCommit}
use Rattle.watch_counts.specs.event_def.Events.{FreesCore, SplitEvent}
use Rattle.watch_counts.specs.event_def.Events.{StepEvent, ComesTo, TakesConflicts}
use Rattle.watch_counts.specs.event_def.Events as events
use Rattle.watch_counts.proofs.Below.event_basis.Taker.{commit_leaves_taker, conflicts_leave_taker}
use Rattle.watch_counts.proofs.Below.event_law.Ends.{one_least}
use Rattle.watch_counts.proofs.Below.event_law.Falls.Heir.{abort_leaves_heir, abort_leaves_it, coalesce_leaves_heir}
use Rattle.watch_counts.proofs.Below.event_law.Falls.Heir.{conflicts_leave_heir, conflicts_leave_it, the_heir}
use Rattle.watch_counts.proofs.Below.event_law.Falls.Rest.{not_both}
use Rattle.watch_counts.proofs.Below.event_law.Keeps.Events.{spilled_asks}
use Rattle.watch_counts.proofs.Below.event_law.Keeps.Forced.{Follows, idle_is_open, still_taken}
use Rattle.watch_counts.proofs.Below.event_law.Keeps.Idle.{least_idle}
use Rattle.watch_counts.proofs.Below.event_law.Keeps.Calls.{running_is_busy}
use Rattle.watch_counts.proofs.Below.event_law.Keeps.Room.{asker_is_there, busy_stays, room_follows, room_is_free}
use Rattle.watch_counts.proofs.Below.spec_law.Dispatches.Heir.{heir_other, heir_stays}
use Rattle.watch_counts.proofs.Below.spec_law.Dispatches.One.{is_after, was_idle}
use Rattle.watch_counts.proofs.Below.spec_law.Dispatches.Order.{dispatched_order}
use Rattle.watch_counts.proofs.Below.spec_law.Dispatches.Sizes.{dispatched_sizes}
use Rattle.watch_counts.proofs.Below.spec_law.Moves.MovingHeir.{moved_heir}
use Rattle.watch_counts.proofs.Below.spec_law.Moves.SplitMoves.{split_moves}
use Rattle.watch_counts.proofs.Below.spec_law.Moves.SplitSizes.{split_sizes}
use Rattle.watch_counts.proofs.Below.spec_law.Proved.{add_keeps_heir, adds, below_others, child_is_above, is_renumbered}
use Rattle.watch_counts.proofs.Below.spec_law.Proved.{least_is_one}
use Rattle.watch_counts.proofs.Below.spec_law.Proved.{keeps_steps, no_tie, renumbered_now, renumbering_leaves_numbers}
use Rattle.watch_counts.proofs.Below.spec_law.Proved.{renumbering_says_same, renumbering_stays_sound, step_keeps_heir}
use Rattle.watch_counts.proofs.Below.spec_law.Proved.{steps_one, StepsOne, stepped_task, without_child}

-- the heir of one view is the heir of another, and stands there as it did
pub record Still (old new : View) (id : ℕ) (heir : IsHeir old (Some id)) : Type 0 where
  pub is : IsHeir new (Some id)
  pub status : is.0.status ≡ heir.0.status
  pub tile : is.0.tile ≡ heir.0.tile
  pub core : is.0.core ≡ heir.0.core

module _ (image : ImageValue) (old : View) (sound : Sound image old) (id : ℕ) (heir : IsHeir old (Some id)) where
  there : task_at old id ≡ Some heir.0
  there = heir.1.queued_at.there

  -- where it is one task still
  by_task : (new : View) → IsHeir new (Some id) → task_at new id ≡ task_at old id → Still old new id heir
  by_task new is same =
      let both : Some is.0 ≡ Some heir.0 = sym is.1.queued_at.there ∙ (same ∙ there) in
      let one : is.0 ≡ heir.0 = cc in
      record {
        is = is;
        status = ap (λ (t : Task). t.status) one;
        tile = ap (λ (t : Task). t.tile) one;
        core = ap (λ (t : Task). t.core) one;
      }

  pub busy : heir.0.status ≢ Idle
  busy idle = let open' = idle_is_open image old sound id heir.0 there idle in absurd (cc (sym heir.2 ∙ open'))

  -- an idle task is another one
  idle_other : (k : ℕ) (x : Task) → task_at old k ≡ Some x → x.status ≡ Idle → k ≢ id
  idle_other k x at idle same =
      let both : Some x ≡ Some heir.0 = sym at ∙ (ap (task_at old) same ∙ there) in
      let one : x ≡ heir.0 = cc in
      busy (ap (λ (t : Task). t.status) (sym one) ∙ idle)

  -- another task is above it, and not the least one
  above : (k : ℕ) (x : Task) → k ≢ id → task_at old k ≡ Some x → key_cmp heir.0.key x.key ≡ Less
  above k x other at = below_others old id heir.0 heir.1 sound.heir sound.order sound.sizes heir.2 k x other at

  not_least : (k : ℕ) → k ≢ id → IsTheLeast old k → ⊥
  not_least k other least =
      let one : heir.0 ≡ least.0 = one_least old (least_is_one old) id k heir.0 least.0 heir.1 least.1 in
      no_tie old sound.heir sound.order id k heir.0 least.0 there least.1.queued_at.there heir.2 other
      (subst (λ (t : Task). key_cmp heir.0.key t.key ≡ Equal) one (tied_itself key_cmp_total heir.0.key))

  -- what makes room for another leaves it so
  room_leaves : (tile : ℕ) (asker : Asker) → (IsLeastAsker old tile asker → ⊥) → {aborted : ℕ} {mid : View}
      → MakesRoom tile asker old aborted mid → IsHeir mid (Some id) × (task_at mid id ≡ task_at old id)
  room_leaves tile asker not (queue_has_room free) = (heir, refl)
  room_leaves tile asker not (coalesces new full moves) =
      (coalesce_leaves_heir image old sound id heir tile new moves, busy_stays tile old new id heir.0 moves there busy)
  room_leaves tile asker not (aborts_victim aborted v x mid new full none least victim firm aborts moves) =
      absurd (not least)
  room_leaves tile asker not (aborts_creator aborted v creator x new full none least victim loose made_by aborts) =
      absurd (not least)

  -- ---- a dispatch

  module _ (tile : ℕ) (new : View) (left : old.next < DISPATCH_NUMBERS) (d : Dispatches tile old new) where
    dispatched : Still old new id heir
    dispatched =
        let order : SoundOrder old (Some id) =
        subst (SoundOrder old) (the_heir image old sound id heir) sound.order in
        let open' = ap (λ t. t.key.tb) (was_idle old new tile d image sound.heir sound.serial sound.tasks) in
        let sizes = dispatched_sizes old new tile d sound.sizes in
        let order' = dispatched_order old new (Some id) tile d open' left order in
        let stays = heir_stays old new (Some id) tile d open' order sound.sizes sizes order' id heir in
        by_task new (subst (λ v. IsHeir v (Some id)) (sym (is_after old new tile d)) stays)
        (d.changes.others id (heir_other old new (Some id) tile d open' order sound.sizes sizes order' id heir))

module _ (image : ImageValue) where
  -- renumbering leaves it so
  renumbered : (old ready : View) (sound : Sound image old) (id : ℕ) (heir : IsHeir old (Some id))
      → FreesNumber old ready
      → Sound image ready × Still old ready id heir × (ready.next < DISPATCH_NUMBERS)
  renumbered old ready sound id heir (has_free left) =
      (sound, record { is = heir; status = refl; tile = refl; core = refl }, left)
  renumbered old ready sound id heir (renumbers new spent r) =
      let is : IsHeir new (Some id) = ((renumbering_says_same old new r).heir (Some id)).0 heir in
      let now : task_at new id ≡ Some (renumbered_task r.table heir.0) =
      ap (λ v. task_at v id) (is_renumbered old new r) ∙ renumbered_now old new r id heir.0 heir.1.queued_at.there in
      let both : Some is.0 ≡ Some (renumbered_task r.table heir.0) = sym is.1.queued_at.there ∙ now in
      let one : is.0 ≡ renumbered_task r.table heir.0 = cc in (
        (renumbering_stays_sound image old new sound r).0,
        record {
          is = is;
          status = ap (λ (t : Task). t.status) one;
          tile = ap (λ (t : Task). t.tile) one;
          core = ap (λ (t : Task). t.core) one;
        },
        renumbering_leaves_numbers image old new sound r,
      )

  still_on : (old mid new : View) (id : ℕ) (heir : IsHeir old (Some id)) (one : Still old mid id heir)
      → Still mid new id one.is → Still old new id heir
  still_on old mid new id heir one two = record {
    is = two.is;
    status = two.status ∙ one.status;
    tile = two.tile ∙ one.tile;
    core = two.core ∙ one.core;
  }

module _ (N : Type 0) (image : ImageValue) (book : BookView) (sound : Sound image book.view) (id : ℕ)
    (heir : IsHeir book.view (Some id)) where
  abbrev old : View
  old = book.view

  -- where all cores of a tile are held, it has nothing to dispatch
  no_core : (tile : ℕ) → IsGranted {N = N} book (event.Dispatch tile) → AllCoresHeld old tile → ⊥
  no_core tile granted held =
      granted reply.Empty (λ k x idle.
      let low = least_idle old tile sound.sizes k x idle in
      granted reply.Busy (record {
        held = held;
        id = low.0;
        task = low.1;
        idle = low.2;
        not_least = not_least image old sound id heir low.0
            (idle_other image old sound id heir low.0 low.1 low.2.idle.there low.2.idle.idle);
      }))

  pub dispatch_by : (tile aborted : ℕ) (mid ready new : View) → IsGranted {N = N} book (event.Dispatch tile)
      → FreesCore tile old aborted mid → FreesNumber mid ready → Dispatches tile ready new → Still old new id heir
  dispatch_by tile aborted mid ready new granted (events.has_free core free) number d =
      let turned = renumbered image old ready sound id heir number in
      still_on image old ready new id heir turned.1
      (dispatched image ready turned.0 id turned.1.is tile new turned.2 d)
  dispatch_by tile aborted mid ready new granted (events.aborts_latest n v task after held latest aborts) number d =
      absurd (no_core tile granted held)

  -- ---- a step of another task

  module _ (tile core : ℕ) (leg : LegValue) (k : ℕ) (taker : Task) (takes : TakesLeg old tile core leg k taker)
      (other : k ≢ id) where
    at : task_at old k ≡ Some taker
    at = takes.runs.on.there

    stepped : (mid new : View) (behind : Task) → IsHeir mid (Some id) → task_at mid id ≡ task_at old id
        → StepsOne mid new k taker behind → Still old new id heir
    stepped mid new behind is same step =
        by_task image old sound id heir new (step_keeps_heir mid new k taker behind step (Some id) is)
        (step.changes.others id (λ eq. other (sym eq)) ∙ same)

    kept : (new : View) (behind : Task) → Keeps k (stepped_task taker behind) old new → Still old new id heir
    kept new behind keeps = stepped old new behind heir refl (keeps_steps old new k taker behind at keeps)

    -- an end: what is taken back for a place of the commit queue is later than the task that ends, and so another one
    end_frees : {aborted : ℕ} {mid : View} → FreesCommit tile taker old aborted mid
        → IsHeir mid (Some id) × (task_at mid id ≡ task_at old id)
    end_frees (events.has_free free) = (heir, refl)
    end_frees (events.aborts_latest aborted v x new full latest later aborts) =
        let apart : v ≢ id = λ same.
        (let both : Some x ≡ Some heir.0 = sym later.there ∙ (ap (task_at old) same ∙ heir.1.queued_at.there) in
        let one : x ≡ heir.0 = cc in
        let itself : key_cmp heir.0.key heir.0.key ≡ Less =
        key_cmp_total.trans heir.0.key taker.key heir.0.key (above image old sound id heir k taker other at)
        (subst (λ (t : Task). key_cmp taker.key t.key ≡ Less) one later.later) in
        absurd (cc (itself, tied_itself key_cmp_total heir.0.key))) in (
          abort_leaves_heir image old sound id heir v x aborted new later.there apart aborts,
          abort_leaves_it image old sound id heir v x aborted new later.there apart aborts,
        )

    ended : (aborted : ℕ) (new : View) → EndEvent tile core leg k taker old aborted new → Still old new id heir
    ended aborted new made =
        let free = end_frees made.forced in
        let taken = commit_leaves_taker image old tile core k leg taker aborted made.mid sound takes made.forced in
        let change : Finishes tile core k taker leg made.mid new = made.change in
        stepped made.mid new (record (task_past_leg taker leg) { status = Finished }) free.0 free.1 (record {
          there = taken.there;
          changes = change.changes;
          rest =
              change.frame ∙ (λ i. record made.mid {
                tasks = new.tasks;
                memory = ap (λ view. view.memory) (sym change.frame) i;
                finished = new.finished;
                cores = new.cores;
              });
        })

    -- a load or a store, whose task goes on so
    accessed : (offset : ℕ) (write : Bool) (aborted : ℕ) (mid new : View) (behind : Task)
        → TakesConflicts taker offset write old aborted mid
        → (task_at mid k ≡ Some taker → StepsOne mid new k taker behind) → Still old new id heir
    accessed offset write aborted mid new behind forced step =
        let line = offset / old.settings.line in
        let taken = conflicts_leave_taker image old tile core k leg taker offset write aborted mid sound takes forced in
        stepped mid new behind
        (conflicts_leave_heir image old sound id heir k line taker write aborted mid at forced)
        (conflicts_leave_it image old sound id heir k line taker write aborted mid at forced)
        (step taken.there)

    -- an enqueue, whose child is above its creator, and so above the heir
    enqueued : (spawn : Spawn) → request_of old taker leg ≡ requests.Enqueue spawn → IsLegOfImage image
        old.settings.budget leg → (aborted : ℕ) (new : View) (placers : List Policy)
        → EnqueueEvent tile core leg k taker spawn book aborted new placers → Still old new id heir
    enqueued spawn asks run aborted new placers made =
        let to = picked_tile book spawn.hint in
        let room = room_leaves image old sound id heir to (Enqueuer k) (not_least image old sound id heir k other)
        made.forced in
        let follows : Follows image old made.mid =
        room_follows image to (Enqueuer k) old sound (λ least. absurd (not_least image old sound id heir k other least))
        (λ least. absurd (not_least image old sound id heir k other least)) made.forced in
        let still : task_at made.mid k ≡ Some taker =
        asker_is_there image to (Enqueuer k) old sound
        (λ least. absurd (not_least image old sound id heir k other least))
        (λ least. absurd (not_least image old sound id heir k other least)) k taker refl at
        (running_is_busy core taker.status takes.runs.running) made.forced in
        let taken = still_taken image old sound made.mid tile core k leg taker follows still
        (record { takes = takes; run = run }) in
        let asks_at : AsksAt image made.mid tile core leg k taker (requests.Enqueue spawn) = record {
          is_leg = taken;
          asks = ap (λ v. request_at (context_of v taker) leg.to leg.stop) (follows.now.version ∙ sym sound.version)
              ∙ asks;
        } in
        let behind : Task = record (task_past_leg taker leg) { spawns = taker.spawns ++ spawn ∷ [] } in
        let between = without_child made.mid new made.change.child in
        let step : StepsOne made.mid between k taker behind =
        steps_one image made.mid new follows.now tile core k to leg taker spawn asks_at made.change in
        let apart : id ≢ k = λ eq. other (sym eq) in
        let same : task_at between id ≡ Some heir.0 =
        step.changes.others id apart ∙ (room.1 ∙ heir.1.queued_at.there) in
        let child = child_of made.mid.version k taker spawn to in
        let child_above : (h : ℕ) (x : Task) → Some id ≡ Some h → task_at between h ≡ Some x
        → key_cmp x.key child.key ≡ Less = λ h x is there_now.
        (let id_is : id ≡ h = cc in
        let both : Some x ≡ Some heir.0 = sym there_now ∙ (ap (task_at between) (sym id_is) ∙ same) in
        let one : x ≡ heir.0 = cc in
        ap (λ (t : Task). key_cmp t.key child.key) one
        ∙ key_cmp_total.trans heir.0.key taker.key child.key (above image old sound id heir k taker other at)
        (child_is_above image old tile core k to leg taker spawn sound takes asks).1) in
        let inside : to < length made.mid.queues =
        (let below = made.inside in
        let tiles : made.mid.settings.tiles ≡ old.settings.tiles = ap (λ s. s.tiles) follows.settings in
        let queues = follows.now.sizes.queues in
        omega (arith, below, tiles, queues)) in
        let is : IsHeir new (Some id) =
        add_keeps_heir between new made.change.child child
        (adds image made.mid new follows.now tile core k to leg taker spawn asks_at made.change) inside (Some id) refl
        child_above (step_keeps_heir made.mid between k taker behind step (Some id) room.0) in
        by_task image old sound id heir new is
        (made.change.others id apart
        (λ eq.
        let clash : Some heir.0 ≡ None =
        sym (room.1 ∙ heir.1.queued_at.there) ∙ (ap (task_at made.mid) eq ∙ made.change.vacant) in
        absurd (cc (clash)))
        ∙ room.1)

  -- ---- a split

  pub split : (tile aborted : ℕ) (new : View) → tile < old.settings.tiles → SplitEvent tile old aborted new
      → Still old new id heir
  split tile aborted new inside made =
      let not : IsLeastSpilled old tile → ⊥ = not_both old id tile heir.0 heir.1 in
      let room = room_leaves image old sound id heir tile Splitter not made.forced in
      let heirless : IsLeastSpilled old tile → Splitter ≡ asker_of sound.heir = λ least. absurd (not least) in
      let follows = room_follows image tile Splitter old sound heirless (spilled_asks old tile) made.forced in
      let free = room_is_free image tile Splitter old sound heirless (spilled_asks old tile) made.forced in
      let change : Splits tile made.mid new = made.change in
      let order : SoundOrder made.mid (Some id) =
      subst (SoundOrder made.mid) (the_heir image made.mid follows.now id room.0) follows.now.order in
      let within = subst (λ s. tile < s.tiles) (sym follows.settings) inside in
      let is : IsHeir new (Some id) =
      subst (λ v. IsHeir v (Some id)) (sym change.frame)
      (moved_heir made.mid new (Some id) (split_moves made.mid new tile follows.now.sizes change) order
      follows.now.sizes (split_sizes made.mid new (Some id) tile order follows.now.sizes within free change) room.0) in
      by_task image old sound id heir new is
      (change.changes.others id
      (λ eq.
      let clash : Some heir.0 ≡ None =
      sym (room.1 ∙ heir.1.queued_at.there) ∙ (ap (task_at made.mid) eq ∙ change.vacant) in
      absurd (cc (clash)))
      ∙ room.1)

  -- a step: of the heir itself, or of another task
  pub step_leaves : (tile core : ℕ) (leg : LegValue) → IsLegOfImage image old.settings.budget leg → (aborted : ℕ)
      (new : View) (placers : List Policy) (step : StepEvent tile core leg book aborted new placers)
      → (step.id ≡ id) ⊎ Still old new id heir
  step_leaves tile core leg run aborted new placers step = elim (cases_eq step.id id) [
    | inl same ↦ inl same
    | inr other ↦ inr (by_request other (request_of old step.task leg) refl step.comes)
  ]
    where
      access : (mid : View) (call : MemoryCall) (to : Core) (does : Accesses step.id step.task call to mid new)
          → task_at mid step.id ≡ Some step.task
          → StepsOne mid new step.id step.task (record step.task {
            core = to;
            log = step.task.log ++ access_of mid.memory call ∷ [];
            lines = does.lines;
          })
      access mid call to does at = record {
        there = at;
        changes = does.changes;
        rest = does.frame ∙ (λ i. record mid {
          tasks = new.tasks;
          memory = new.memory;
          finished = sym (ap (λ view. view.finished) does.frame) i;
          cores = sym (ap (λ view. view.cores) does.frame) i;
        });
      }

      by_request : step.id ≢ id → (request : Request) → request_of old step.task leg ≡ request
          → ComesTo tile core leg step.id step.task request book aborted new placers → Still old new id heir
      by_request other requests.Continue asks made =
          kept tile core leg step.id step.task step.takes other new (record step.task { core = leg.to }) made.0
      by_request other (requests.Load width rd offset) asks made =
          accessed tile core leg step.id step.task step.takes other offset false aborted made.0.mid new _ made.0.forced
          (access made.0.mid _ _ made.0.change)
      by_request other (requests.Store offset bytes value) asks made =
          accessed tile core leg step.id step.task step.takes other offset true aborted made.0.mid new _ made.0.forced
          (access made.0.mid _ _ made.0.change)
      by_request other (requests.Enqueue spawn) asks made =
          enqueued tile core leg step.id step.task step.takes other spawn asks run aborted new placers made
      by_request other (requests.MakeSub kind) asks made =
          kept tile core leg step.id step.task step.takes other new
          (record (task_past_leg step.task leg) { sub = Some kind }) made.0
      by_request other (requests.Emit byte) asks made =
          kept tile core leg step.id step.task step.takes other new
          (record (task_past_leg step.task leg) { bytes = step.task.bytes ++ byte ∷ [] }) made.0
      by_request other requests.End asks made =
          ended tile core leg step.id step.task step.takes other aborted new made.0
      by_request other (requests.Trap cause) asks made =
          kept tile core leg step.id step.task step.takes other new
          (record step.task { core = leg.to; status = Trapped core cause }) made.0
