-- What is forced for a core leaves the least task, which is idle, the least one and the least idle one of its tile.
use Rattle.std.proofs.Common.{ℕ, zero, suc, ◌≡◌, ◌≢◌, ◌≤◌, inl, inr, Bool, true, false, List, [], ◌∷◌, Option, Some}
use Rattle.std.proofs.Common.{None, refl, sym, ap, subst, ◌∙◌, arith, length, map, take, is_some, option_map}
use Rattle.std.proofs.Common.{if◌then◌else◌}
use Rattle.std.specs.Prelude.{slice_get, slice_index_or}
use Rattle.std.specs.FinMap.{nat_cmp-IsAntisymmetric}
use Rattle.std.specs.Ordering.{nat_cmp, ordering_then}
use Rattle.std.specs.declared.cmp.Ordering.{Ordering}
use Rattle.std.specs.declared.cmp.Ordering.TheVariants.{Less, Equal, Greater}
use Rattle.std.proofs.lemmas.Bool.{cases_eq, false_from_ne_true}
use Rattle.std.proofs.lemmas.Bool.Decides.{nat_tests}
use Rattle.std.proofs.lemmas.Option.{slice_get-map}
use Rattle.fractal_vt.specs.Keys.{key_cmp, levels}
use Rattle.fractal_vt.specs.declared.key.Key.{Key}
use Rattle.fractal_vt.proofs.Proved.{equal_keys_tie, key_cmp_total, less_of}
use Rattle.guest_image.specs.ImageValue.{ImageValue}
use Rattle.order_law.proofs.Proved.{below_reopened}
use Rattle.spill_store.specs.SpilledTasks.{Spilled, open_key}
use Rattle.event_law.specs.task_law.Room.{RoomTask, kept_by, queue_after}
use Rattle.event_law.specs.spec_state.declared.task.Status.TheVariants.{Idle}
use Rattle.event_law.specs.spec_state.declared.task.Task.{Task}
use Rattle.event_law.specs.spec_state.View.{View, task_at, queue_at, block_at, cores_at}
use Rattle.event_law.specs.spec_state.Tasks.{is_dispatched}
use Rattle.event_law.specs.spec_state.Groups.{keyed_task, room_tasks, room_task}
use Rattle.event_law.specs.spec_state.Least.{Spot, Queued, Spilled_at, HasKey, IsLeastTask, IsQueuedAt, place_cmp}
use Rattle.event_law.specs.spec_state.Least.{ranked_cmp}
use Rattle.event_law.specs.spec_state.Least.{spot_cmp}
use Rattle.event_law.specs.spec_state.Aborts.{Aborts, OnlyNode, freed_core, is_marked}
use Rattle.event_law.specs.spec_state.Queries.{IsFreeCore, IsLatestOnCore}
use Rattle.event_law.specs.spec_law.Sound.{Sound}
use Rattle.event_law.proofs.Below.spec_law.Proved.{abort_of_one_is_sound, cascade_is_later, distinct_at, get_contains}
use Rattle.event_law.proofs.Below.spec_law.Proved.{least_is_one, least_key, list_mapped, marked_is_back}
use Rattle.event_law.proofs.Below.spec_law.Proved.{not_below_least, queued_at}
use Rattle.event_law.proofs.Below.spec_law.Proved.{upto_queued}
use Rattle.event_law.specs.event_def.Events.{FreesCore}
use Rattle.event_law.specs.event_def.Events as events
use Rattle.event_law.proofs.Proved.{heir_is, idle_is_open, one_least, spared_stays}
use Rattle.event_basis.specs.Laws.{IdleStays}
use Rattle.event_basis.specs.Forcing.{LeavesCore, LeavesIdle}
use Rattle.event_basis.proofs.Forced.{abort_like, like_itself}
use Rattle.event_basis.proofs.Holders.{holder_is_dispatched}
use Rattle.event_basis.proofs.Leasts.{least_is_least_idle}
use Rattle.tile_queues.proofs.Proved.{one_place}

module _ (tasks : ℕ → Option RoomTask) where
  -- the place of what stands at this one, once the ids of tasks that have gone are left out
  abbrev place_after : ℕ → List ℕ → ℕ
  place_after place queue = length (queue_after tasks (take place queue))

  -- it stands there
  stands_after : (queue : List ℕ) (place id : ℕ) → slice_get queue place ≡ Some id → is_some (tasks id) ≡ true
      → slice_get (queue_after tasks queue) (place_after place queue) ≡ Some id
  stands_after [] place id at there = absurd (cc (at))
  stands_after (k ∷ queue) zero id at there =
      let same : k ≡ id = cc in
      subst (λ b. slice_get (kept_by b k (queue_after tasks queue)) 0 ≡ Some id) (sym (ap (λ j. is_some (tasks j)) same ∙ there)) at
  stands_after (k ∷ queue) (suc place) id at there = by_test (is_some (tasks k)) (stands_after queue place id at there)
    where
      by_test : (b : Bool) → slice_get (queue_after tasks queue) (place_after place queue) ≡ Some id
          → slice_get (kept_by b k (queue_after tasks queue))
          (length (kept_by b k (queue_after tasks (take place queue)))) ≡ Some id
      by_test true at' = at'
      by_test false at' = at'

  -- and what stood no further does so still
  no_further : (queue : List ℕ) (p q : ℕ) → p ≤ q → place_after p queue ≤ place_after q queue
  no_further queue zero q low = omega arith
  no_further queue (suc p) zero low = absurd (omega (arith, low))
  no_further [] (suc p) (suc q) low = omega arith
  no_further (k ∷ queue) (suc p) (suc q) low = by_test (is_some (tasks k)) (no_further queue p q (omega (arith, low)))
    where
      by_test : (b : Bool) → place_after p queue ≤ place_after q queue
          → length (kept_by b k (queue_after tasks (take p queue))) ≤ length (kept_by b k (queue_after tasks (take q queue)))
      by_test true less = omega (arith, less)
      by_test false less = less

-- of two places of tiles one comes no later than the other still, where in one tile it does
places_kept : (tile u p q r s : ℕ) → (tile ≡ u → p ≤ q → r ≤ s) → place_cmp tile p u q ≢ Greater
    → place_cmp tile r u s ≢ Greater
places_kept tile u p q r s kept upto = by_tiles (nat_cmp tile u) refl upto
  where
    not_greater : tile ≡ u → nat_cmp p q ≢ Greater → nat_cmp r s ≢ Greater
    not_greater same low =
        let first : p ≤ q = grind (arith, nat_tests, low) in
        let still : r ≤ s = kept same first in
        grind (arith, nat_tests, still)

    by_tiles : (o : Ordering) → nat_cmp tile u ≡ o → ordering_then o (nat_cmp p q) ≢ Greater
        → ordering_then o (nat_cmp r s) ≢ Greater
    by_tiles Less is low = λ e. absurd (cc (e))
    by_tiles Equal is low = not_greater (nat_cmp-IsAntisymmetric tile u is) low
    by_tiles Greater is low = absurd (low refl)

-- where keys decide first, what holds of the places holds of the whole
ranks_kept : (o a b : Ordering) → (a ≢ Greater → b ≢ Greater) → ordering_then o a ≢ Greater
    → ordering_then o b ≢ Greater
ranks_kept Less a b kept low = low
ranks_kept Equal a b kept low = kept low
ranks_kept Greater a b kept low = low

-- what is less comes first, wherever it stands
first_where : (o p : Ordering) → o ≡ Less → ordering_then o p ≢ Greater
first_where o p less greater = absurd (cc (sym (ap (λ r. ordering_then r p) less) ∙ greater))

module _ (image : ImageValue) (old : View) (sound : Sound image old) (id : ℕ) (task : Task) (least : IsLeastTask old id task) (idle : task.status ≡ Idle) where
  -- the least task is not dispatched
  open_is : is_dispatched task ≡ false
  open_is = idle_is_open image old sound id task least.queued_at.there idle

  -- so there is no heir
  no_heir : (v : ℕ) → sound.heir ≢ Some v
  no_heir v same =
      let heir = heir_is image old sound v same in
      let one : heir.0 ≡ task = one_least old (least_is_one old) v id heir.0 task heir.1 least in
      absurd (cc (sym heir.2 ∙ (ap is_dispatched one ∙ open_is)))

  module _ (v aborted : ℕ) (x : Task) (mid : View) (latest : IsLatestOnCore old task.tile v x) (aborts : Aborts (OnlyNode v) old aborted mid) where
    -- the view after is sound
    now : Sound image mid
    now = (abort_of_one_is_sound image v x old aborted mid sound latest.of_kind.1.there (no_heir v) aborts).0

    -- the task on a core is dispatched
    holder_dispatched : is_dispatched x ≡ true
    holder_dispatched = holder_is_dispatched image old sound task.tile latest.of_kind.0 v x latest.of_kind.1

    -- the least task is below it
    below_holder : key_cmp task.key x.key ≡ Less
    below_holder =
        less_of (key_cmp task.key x.key) (upto_queued old id task least sound.sizes v x latest.of_kind.1.there)
        (λ tie.
        let same : task.key ≡ x.key = (equal_keys_tie task.key x.key).0 tie in
        absurd (cc (sym holder_dispatched ∙ (ap (λ (key : Key). is_some key.tb) (sym same) ∙ open_is))))

    -- and below all that is taken back
    below_marked : (k : ℕ) (y : Task) → is_marked aborts.marks k ≡ true → task_at old k ≡ Some y
        → key_cmp task.key y.key ≡ Less
    below_marked k y marked there = elim (cases_eq k v) [
      | inl same ↦
          let both : Some y ≡ Some x = sym there ∙ (ap (task_at old) same ∙ latest.of_kind.1.there) in
          let one : y ≡ x = cc in
          subst (λ (t : Task). key_cmp task.key t.key ≡ Less) (sym one) below_holder
      | inr other ↦
          let later = cascade_is_later image old v x aborts.marks sound latest.of_kind.1.there aborts.cascade k marked other in
          let both : Some later.0 ≡ Some y = sym later.1 ∙ there in
          let one : later.0 ≡ y = cc in
          let above : key_cmp x.key y.key ≡ Less = subst (λ (t : Task). key_cmp x.key t.key ≡ Less) one later.2 in
          key_cmp_total.trans task.key x.key y.key below_holder above
    ]

    -- so it stays
    spared : is_marked aborts.marks id ≡ false
    spared =
        false_from_ne_true (is_marked aborts.marks id)
        (λ marked. not_below_least old sound.sizes id id task task least least.queued_at.there (below_marked id task marked least.queued_at.there))

    there_still : task_at mid id ≡ Some task
    there_still = spared_stays (OnlyNode v) old mid aborted id aborts spared ∙ least.queued_at.there

    -- a task that was queued and is there stands at its place among those that are left
    stands_still : (tile place k : ℕ) (y : Task) → slice_get (queue_at old tile) place ≡ Some k → task_at mid k ≡ Some y
        → slice_get (queue_at mid tile) (place_after (room_tasks mid) place (queue_at old tile)) ≡ Some k
    stands_still tile place k y at there =
        let queue : queue_at mid tile ≡ queue_after (room_tasks mid) (queue_at old tile) =
        ap (λ (queues : List (List ℕ)). slice_index_or queues tile []) aborts.queues
        ∙ list_mapped (queue_after (room_tasks mid)) refl old.queues tile in
        ap (λ (ids : List ℕ). slice_get ids (place_after (room_tasks mid) place (queue_at old tile))) queue
        ∙ stands_after (room_tasks mid) (queue_at old tile) place k at (ap (λ o. is_some (option_map room_task o)) there)

    -- the place of the least task
    abbrev place_now : ℕ
    place_now = place_after (room_tasks mid) least.place (queue_at old task.tile)

    least_at_now : IsQueuedAt mid task.tile place_now id task
    least_at_now =
        record {
          queued = stands_still task.tile least.place id task least.queued_at.queued there_still;
          there = there_still;
        }

    -- an unmarked task ranks no lower than it
    unmarked_upto : (u q k : ℕ) (y : Task) → IsQueuedAt mid u q k y → task_at old k ≡ Some y
        → ranked_cmp task.key (Queued task.tile place_now) y.key (Queued u q) ≢ Greater
    unmarked_upto u q k y at was =
        let has = (now.sizes.queued_are u k).0 (get_contains (queue_at mid u) q k at.queued) in
        let both : Some has.0 ≡ Some y = sym has.1 ∙ at.there in
        let one : has.0 ≡ y = cc in
        let tile_is : y.tile ≡ u = ap (λ (t : Task). t.tile) (sym one) ∙ has.2 in
        let before = queued_at old sound.sizes k y was in
        let at_old : IsQueuedAt old u before.0 k y = subst (λ t. IsQueuedAt old t before.0 k y) tile_is before.1 in
        let still = stands_still u before.0 k y at_old.queued at.there in
        let place_is : place_after (room_tasks mid) before.0 (queue_at old u) ≡ q =
        one_place (queue_at mid u) (place_after (room_tasks mid) before.0 (queue_at old u)) q k
        (distinct_at mid.settings.task_queue mid.queues u now.sizes.task_queues) still at.queued in
        let upto : ranked_cmp task.key (Queued task.tile least.place) y.key (Queued u before.0) ≢ Greater =
        subst (λ key. ranked_cmp key (Queued task.tile least.place) y.key (Queued u before.0) ≢ Greater) (least_key old id task least)
        (least.least.least (Queued u before.0) y.key (k, y, at_old, refl)) in
        ranks_kept (key_cmp task.key y.key) (place_cmp task.tile least.place u before.0) (place_cmp task.tile place_now u q)
        (places_kept task.tile u least.place before.0 place_now q
        (λ same low. subst (λ n. place_now ≤ n) place_is
        (subst (λ t. place_now ≤ place_after (room_tasks mid) before.0 (queue_at old t)) same
        (no_further (room_tasks mid) (queue_at old task.tile) least.place before.0 low))))
        upto

    -- a queued task, whether it was taken back or not
    queued_upto : (u q k : ℕ) (y : Task) → IsQueuedAt mid u q k y
        → ranked_cmp task.key (Queued task.tile place_now) y.key (Queued u q) ≢ Greater
    queued_upto u q k y at = by_mark (is_marked aborts.marks k) refl
      where
        by_mark : (b : Bool) → is_marked aborts.marks k ≡ b
            → ranked_cmp task.key (Queued task.tile place_now) y.key (Queued u q) ≢ Greater
        by_mark true marked =
            let back = marked_is_back aborts k y marked at.there in
            let below : key_cmp task.key y.key ≡ Less =
            ap (λ (t : Task). key_cmp task.key t.key) back.is
            ∙ below_reopened (levels task.key) (keyed_task back.was) (below_marked k back.was marked back.there) in
            first_where (key_cmp task.key y.key) (spot_cmp (Queued task.tile place_now) (Queued u q)) below
        by_mark false out =
            unmarked_upto u q k y at (sym (spared_stays (OnlyNode v) old mid aborted k aborts out) ∙ at.there)

    -- a spilled task stays behind it
    spilled_upto : (u q : ℕ) (s : Spilled) → slice_get (block_at mid u) q ≡ Some s
        → ranked_cmp task.key (Queued task.tile place_now) (open_key s) (Spilled_at u q) ≢ Greater
    spilled_upto u q s at =
        let was : slice_get (block_at old u) q ≡ Some s =
        subst (λ (blocks : List (List Spilled)). slice_get (slice_index_or blocks u []) q ≡ Some s) (ap (λ view. view.blocks) aborts.frame) at in
        subst (λ key. ranked_cmp key (Queued task.tile place_now) (open_key s) (Spilled_at u q) ≢ Greater) (least_key old id task least)
        (least.least.least (Spilled_at u q) (open_key s) (s, was, refl))

    by_spot : (other : Spot) (key : Key) → HasKey mid other key
        → ranked_cmp task.key (Queued task.tile place_now) key other ≢ Greater
    by_spot (Queued u q) key has =
        subst (λ k. ranked_cmp task.key (Queued task.tile place_now) k (Queued u q) ≢ Greater) (sym has.3) (queued_upto u q has.0 has.1 has.2)
    by_spot (Spilled_at u q) key has =
        subst (λ k. ranked_cmp task.key (Queued task.tile place_now) k (Spilled_at u q) ≢ Greater) (sym has.2) (spilled_upto u q has.0 has.1)

    -- so it is the least one still
    least_still : IsLeastTask mid id task
    least_still = record {
      place = place_now;
      queued_at = least_at_now;
      least = record { key = task.key; has = (id, task, least_at_now, refl); least = by_spot };
    }

    -- and the core of what was taken back is free
    core_is_free : IsFreeCore mid task.tile latest.of_kind.0
    core_is_free =
        let cores : cores_at mid task.tile ≡ map (freed_core aborts.marks) (cores_at old task.tile) =
        ap (λ (lists : List (List (Option ℕ))). slice_index_or lists task.tile []) aborts.cores
        ∙ list_mapped (map (freed_core aborts.marks)) refl old.cores task.tile in
        let marked : is_marked aborts.marks v ≡ true = aborts.cascade.least.holds v refl in
        ap (λ (held : List (Option ℕ)). slice_get held latest.of_kind.0) cores
        ∙ (slice_get-map (freed_core aborts.marks) (cores_at old task.tile) latest.of_kind.0
        ∙ (ap (option_map (freed_core aborts.marks)) latest.of_kind.1.held ∙ ap (λ b. Some (if b then None else Some v)) marked))

-- what is forced for a core, where the least task is idle in its tile: the view is sound and like the one before,
-- that task is the least one still and the least idle one of its tile, and a core is free
pub core_leaves_least : (image : ImageValue) (old : View) (tile id : ℕ) (task : Task) (aborted : ℕ) (mid : View)
    → Sound image old → IsLeastTask old id task
    → task.status ≡ Idle → task.tile ≡ tile → FreesCore tile old aborted mid → LeavesCore image tile id task old mid
core_leaves_least image old tile id task aborted mid sound least idle there forced =
    subst (λ t. LeavesCore image t id task old mid) there (leaves (subst (λ t. FreesCore t old aborted mid) (sym there) forced))
  where
    leaves : {n : ℕ} {view : View} → FreesCore task.tile old n view → LeavesCore image task.tile id task old view
    leaves (events.has_free core free) = record {
      sound = sound;
      like = like_itself old;
      least = least;
      idle = least_is_least_idle old sound.sizes task.tile id task least refl idle;
      core = core;
      free = free;
    }
    leaves (events.aborts_latest n v x view held latest aborts) =
        let after = now image old sound id task least idle v n x view latest aborts in
        let still = least_still image old sound id task least idle v n x view latest aborts in
        record {
          sound = after;
          like = abort_like (OnlyNode v) old view n aborts;
          least = still;
          idle = least_is_least_idle view after.sizes task.tile id task still refl idle;
          core = latest.of_kind.0;
          free = core_is_free image old sound id task least idle v n x view latest aborts;
        }

-- what is forced for a core leaves the least idle task of its tile so, where it is the least task wherever no core is
-- free, and a core is free
pub core_leaves_idle : IdleStays
core_leaves_idle image old tile id task aborted mid sound idle held_least forced = leaves forced
  where
    leaves : {n : ℕ} {view : View} → FreesCore tile old n view → LeavesIdle image tile id task old view
    leaves (events.has_free core free) =
        record { sound = sound; like = like_itself old; idle = idle; core = core; free = free }
    leaves (events.aborts_latest n v x view held latest aborts) =
        let least = held_least held in
        let both : Some least.0 ≡ Some task = sym least.1.queued_at.there ∙ idle.idle.there in
        let same : least.0 ≡ task = cc in
        let has = (sound.sizes.queued_are tile id).0 idle.idle.queued in
        let also : Some has.0 ≡ Some task = sym has.1 ∙ idle.idle.there in
        let one : has.0 ≡ task = cc in
        let after = core_leaves_least image old tile id task n view sound (subst (IsLeastTask old id) same least.1) idle.idle.idle
        (ap (λ (t : Task). t.tile) (sym one) ∙ has.2) (events.aborts_latest n v x view held latest aborts) in
        record { sound = after.sound; like = after.like; idle = after.idle; core = after.core; free = after.free }
