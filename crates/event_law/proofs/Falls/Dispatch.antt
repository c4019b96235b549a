-- A dispatch in the tile of the least task, which is idle, makes the dispatched task the least one.
use Rattle.std.proofs.Common.{ℕ, ◌≡◌, ◌≢◌, ◌<◌, inl, inr, [], false, Option, Some, None, refl, sym, ap, subst, ◌∙◌, map}
use Rattle.std.specs.Prelude.{slice_get, slice_index_or}
use Rattle.std.proofs.lemmas.Bool.{cases_eq, false_from_ne_true}
use Rattle.std.proofs.lemmas.Cmp.{tied_itself, upto}
use Rattle.std.specs.Ordering.{is_gt}
use Rattle.std.specs.declared.cmp.Ordering.{Ordering}
use Rattle.std.specs.declared.cmp.Ordering.TheVariants.{Less, Equal, Greater}
use Rattle.fractal_vt.specs.Keys.{key_cmp, levels}
use Rattle.fractal_vt.specs.Levels.{closed_level}
use Rattle.fractal_vt.specs.declared.key.Key.{Key}
use Rattle.fractal_vt.specs.Renumbered.{HoldsKey, renumbered_key}
use Rattle.fractal_vt.proofs.Proved.{equal_keys_tie, first_not_greater, key_cmp_total, not_greater}
use Rattle.guest_image.specs.ImageValue.{ImageValue}
use Rattle.order_law.proofs.Proved.{below_reopened, rises}
use Rattle.spill_store.specs.SpilledTasks.{Spilled, open_key}
use Rattle.event_def.specs.spec_state.declared.numbers.TheConstants.{DISPATCH_NUMBERS}
use Rattle.event_def.specs.spec_state.declared.task.Status.{Status}
use Rattle.event_def.specs.spec_state.declared.task.Status.TheVariants.{Idle}
use Rattle.event_def.specs.spec_state.declared.task.Task.{Task}
use Rattle.event_def.specs.spec_state.View.{View, task_at, block_at}
use Rattle.event_def.specs.spec_state.Aborts.{Aborts, OnlyNode, is_marked}
use Rattle.event_def.specs.spec_state.Changes.{Dispatches}
use Rattle.event_def.specs.spec_state.Numbers.{FreesNumber, Renumbers, has_free, renumbered_task, renumbers}
use Rattle.event_def.specs.spec_state.Groups.{keyed_task}
use Rattle.event_def.specs.spec_state.Least.{Queued, IsQueuedAt, IsLeastTask, spot_cmp, ranked_cmp}
use Rattle.event_def.specs.spec_state.Queries.{IsIdle, IsLatestOnCore}
use Rattle.spec_law.specs.Sound.{Sound}
use Rattle.event_def.specs.spec_state.Tasks.{idle_again}
use Rattle.event_def.specs.spec_state.Stored.{HasCore}
use Rattle.spec_law.proofs.Proved.{cascade_is_later, dispatch_stays_sound, each_now, each_renumbered}
use Rattle.spec_law.proofs.Proved.{holds_placed, holds_task, is_renumbered, makes_least, not_below_least, now}
use Rattle.spec_law.proofs.Proved.{queued_at, renumbered_now, renumbered_to, same_order, spilled_was, upto_queued}
use Rattle.spec_law.proofs.Proved.{upto_spilled, was_idle}
use Rattle.event_def.specs.Events.{FreesCore}
use Rattle.event_def.specs.Events as events
use Rattle.event_law.proofs.Granted.{is_idle}
use Rattle.event_law.proofs.Keeps.Forced.{spared_stays}

-- the first key is not above the second
abbrev pub IsUpto : Key → Key → Type 0
IsUpto a b = is_gt (key_cmp a b) ≡ false

-- a key below one that is not above a third is below that
below_upto : (a b c : Key) → key_cmp a b ≡ Less → IsUpto b c → key_cmp a c ≡ Less
below_upto a b c less low = by_order (key_cmp b c) refl low
  where
    by_order : (o : Ordering) → key_cmp b c ≡ o → is_gt o ≡ false → key_cmp a c ≡ Less
    by_order Less is low = key_cmp_total.trans a b c less is
    by_order Equal is low = subst (λ k. key_cmp a k ≡ Less) ((equal_keys_tie b c).0 is) less
    by_order Greater is low = absurd (cc (low))

-- a key with a number is below the same one that is open
number_is_below : (key : Key) (n : ℕ) → key.tb ≡ None → key_cmp (record key { tb = Some n }) key ≡ Less
number_is_below key n open' =
    subst (λ tie. key_cmp (record key { tb = Some n }) (record key { tb = tie }) ≡ Less) (sym open')
    (rises (map closed_level key.domain) (record { ts = key.ts; tb = Some n }) n refl)

-- what is not above a task is not above it once it is idle again
upto_again : (version : ℕ) (a : Key) (t : Task) → IsUpto a t.key → IsUpto a (idle_again version t).key
upto_again version a t low = by_order (key_cmp a t.key) refl low
  where
    itself : (tie : Option ℕ) → t.key.tb ≡ tie → IsUpto t.key (idle_again version t).key
    itself None is =
        subst (λ k. IsUpto t.key (record t.key { tb = k })) is (ap is_gt (tied_itself key_cmp_total t.key))
    itself (Some n) is = ap is_gt (rises (map closed_level t.key.domain) (record { ts = t.key.ts; tb = t.key.tb }) n is)

    by_order : (o : Ordering) → key_cmp a t.key ≡ o → is_gt o ≡ false → IsUpto a (idle_again version t).key
    by_order Less is low = ap is_gt (below_reopened (levels a) (keyed_task t) is)
    by_order Equal is low =
        subst (λ k. IsUpto k (idle_again version t).key) (sym ((equal_keys_tie a t.key).0 is)) (itself t.key.tb refl)
    by_order Greater is low = absurd (cc (low))

-- an idle task of the tile with this key, which is above no task's
pub record IsLow (view : View) (tile : ℕ) (low : Key) : Type 0 where
  pub id : ℕ
  pub task : Task
  pub idle : IsIdle view tile id task
  pub key : task.key ≡ low
  pub queued : (k : ℕ) (x : Task) → task_at view k ≡ Some x → IsUpto low x.key
  pub spilled : (u p : ℕ) (s : Spilled) → slice_get (block_at view u) p ≡ Some s → IsUpto low (open_key s)

module _ (image : ImageValue) (old : View) (sound : Sound image old) (tile id : ℕ) (task : Task) (least : IsLeastTask old id task) (idle : task.status ≡ Idle) (there : task.tile ≡ tile) where
  -- the least task is such a one
  least_is_low : IsLow old tile task.key
  least_is_low = record {
    id = id;
    task = task;
    idle = is_idle old tile id task least idle there;
    key = refl;
    queued = λ k x at. not_greater (key_cmp task.key x.key) (upto_queued old id task least sound.sizes k x at);
    spilled = λ u p s at. not_greater (key_cmp task.key (open_key s)) (upto_spilled old id task least u p s at);
  }

  -- a task on a core is another one
  on_core_is_other : (v : ℕ) (x : Task) → IsLatestOnCore old tile v x → id ≢ v
  on_core_is_other v x latest same =
      let held = (sound.sizes.held_are tile latest.of_kind.0 v).0 latest.of_kind.1.held in
      let both : Some held.0 ≡ Some task = sym held.1 ∙ (ap (task_at old) (sym same) ∙ least.queued_at.there) in
      let one : held.0 ≡ task = cc in
      subst (λ (s : Status). HasCore s latest.of_kind.0) (ap (λ (t : Task). t.status) one ∙ idle) held.3

  -- and its cascade spares the least one
  core_spares : (v : ℕ) (x : Task) (aborted : ℕ) (mid : View) → IsLatestOnCore old tile v x
      → (aborts : Aborts (OnlyNode v) old aborted mid) → is_marked aborts.marks id ≡ false
  core_spares v x aborted mid latest aborts =
      false_from_ne_true (is_marked aborts.marks id)
      (λ marked.
      let later = cascade_is_later image old v x aborts.marks sound latest.of_kind.1.there aborts.cascade id marked (on_core_is_other v x latest) in
      let both : Some later.0 ≡ Some task = sym later.1 ∙ least.queued_at.there in
      let one : later.0 ≡ task = cc in
      not_below_least old sound.sizes id v task x least latest.of_kind.1.there (subst (λ (t : Task). key_cmp x.key t.key ≡ Less) one later.2))

  -- the least task is such a one still, once a core is free
  still_low : {aborted : ℕ} {mid : View} → FreesCore tile old aborted mid → Sound image mid → IsLow mid tile task.key
  still_low (events.has_free core free) mid_sound = least_is_low
  still_low (events.aborts_latest aborted v x new held latest aborts) mid_sound =
      let at : task_at new id ≡ Some task = spared_stays (OnlyNode v) old new aborted id aborts (core_spares v x aborted new latest aborts) ∙ least.queued_at.there in
      record {
        id = id;
        task = task;
        idle =
            record { queued = (mid_sound.sizes.queued_are tile id).1 (task, at, there, tt); there = at; idle = idle };
        key = refl;
        queued =
            each_now aborts (λ k t. IsUpto task.key t.key)
            (λ k t was out. least_is_low.queued k t was)
            (λ k t back. upto_again old.version task.key back.was (least_is_low.queued k back.was back.there));
        spilled = λ u p s got. least_is_low.spilled u p s
            (subst (λ blocks. slice_get (slice_index_or blocks u []) p ≡ Some s) (ap (λ view. view.blocks) aborts.frame) got);
      }

-- what the least task is not above, it is not above once all are renumbered
renumbered_low : (mid ready : View) (r : Renumbers mid ready) (tile : ℕ) (low : Key) → IsLow mid tile low
    → (renumbered : Key) × IsLow (renumbered_to mid ready r) tile renumbered
renumbered_low mid ready r tile low is =
    let upto : (key : Key) → HoldsKey r.table key → IsUpto low key → IsUpto (renumbered_key r.table is.task.key) (renumbered_key r.table key) =
    λ key holds before.
    (ap is_gt (same_order mid ready r is.task.key key (holds_task mid ready r is.id is.task is.idle.there) holds)
    ∙ subst (λ k. IsUpto k key) (sym is.key) before) in (
      renumbered_key r.table is.task.key,
      record {
        id = is.id;
        task = renumbered_task r.table is.task;
        idle =
            record {
              queued = is.idle.queued;
              there = renumbered_now mid ready r is.id is.task is.idle.there;
              idle = is.idle.idle;
            };
        key = refl;
        queued = each_renumbered mid ready r (λ k t. IsUpto (renumbered_key r.table is.task.key) t.key)
            (λ k w there. upto w.key (holds_task mid ready r k w there) (is.queued k w there));
        spilled = λ u p s at.
            (let w = spilled_was mid ready r u p s at in
            subst (λ x. IsUpto (renumbered_key r.table is.task.key) (open_key x)) (sym w.2)
            (upto (open_key w.0) (holds_placed mid ready r u p w.0 w.1) (is.spilled u p w.0 w.1)));
      },
    )

-- a dispatch number is freed, and the least task stays so
ready_low : (mid ready : View) (tile : ℕ) (low : Key) → IsLow mid tile low → FreesNumber mid ready
    → (now : Key) × IsLow ready tile now
ready_low mid ready tile low is (has_free left) = (low, is)
ready_low mid ready tile low is (renumbers new spent r) =
    subst (λ view. (now : Key) × IsLow view tile now) (sym (is_renumbered mid new r)) (renumbered_low mid new r tile low is)

module _ (image : ImageValue) (mid new : View) (sound : Sound image mid) (tile : ℕ) (low : Key) (is : IsLow mid tile low) (left : mid.next < DISPATCH_NUMBERS) (d : Dispatches tile mid new) where
  -- a task of the tile's queue stands at a place of it
  placed : (k : ℕ) (x : Task) → IsIdle mid tile k x → (p : ℕ) × IsQueuedAt mid tile p k x
  placed k x idle =
      let has = (sound.sizes.queued_are tile k).0 idle.queued in
      let both : Some has.0 ≡ Some x = sym has.1 ∙ idle.there in
      let one : has.0 ≡ x = cc in
      let tile_is : x.tile ≡ tile = ap (λ (t : Task). t.tile) (sym one) ∙ has.2 in
      let at = queued_at mid sound.sizes k x idle.there in
      (at.0, subst (λ t. IsQueuedAt mid t at.0 k x) tile_is at.1)

  -- the least idle task of the tile is not above that key
  chosen_upto : IsUpto d.task.key low
  chosen_upto = elim (cases_eq is.id d.id) [
    | inl same ↦
        let both : Some is.task ≡ Some d.task = sym is.idle.there ∙ (ap (task_at mid) same ∙ d.least.idle.there) in
        let one : is.task ≡ d.task = cc in
        subst (IsUpto d.task.key) (ap (λ (t : Task). t.key) (sym one) ∙ is.key) (ap is_gt (tied_itself key_cmp_total d.task.key))
    | inr other ↦
        let first = placed d.id d.task d.least.idle in
        let second = placed is.id is.task is.idle in
        let before : ranked_cmp d.task.key (Queued tile first.0) is.task.key (Queued tile second.0) ≡ Less =
        d.least.least is.id is.task other is.idle first.0 second.0 d.task is.task first.1 second.1 in
        subst (IsUpto d.task.key) is.key
        (not_greater (key_cmp d.task.key is.task.key)
        (first_not_greater (key_cmp d.task.key is.task.key) (spot_cmp (Queued tile first.0) (Queued tile second.0)) (λ greater. absurd (cc (sym before ∙ greater)))))
  ]

  -- once it is dispatched it is below whatever that key is not above
  started_below : (key : Key) → IsUpto low key → key_cmp (now mid new tile d).key key ≡ Less
  started_below key upto_key =
      let open' : d.task.key.tb ≡ None = ap (λ (t : Task). t.key.tb) (was_idle mid new tile d image sound.heir sound.serial sound.tasks) in
      below_upto (now mid new tile d).key d.task.key key (number_is_below d.task.key mid.next open')
      (upto key_cmp_total d.task.key low key chosen_upto upto_key)

  -- so it is the least task
  pub started_is_least : IsLeastTask new d.id (now mid new tile d)
  started_is_least =
      makes_least new (dispatch_stays_sound image mid new sound tile left d).0.sizes d.id (now mid new tile d) d.changes.changed
      (λ k t other at. started_below t.key (is.queued k t (sym (d.changes.others k other) ∙ at)))
      (λ u p s at. (λ greater.
      let was : slice_get (block_at mid u) p ≡ Some s = subst (λ blocks. slice_get (slice_index_or blocks u []) p ≡ Some s) (ap (λ view. view.blocks) d.frame) at in
      absurd (cc (sym (started_below (open_key s) (is.spilled u p s was)) ∙ greater))))

-- where the least task is idle in a tile, and a core and a number are free for it, the task that is dispatched there is the least one
pub dispatched_is_least : (image : ImageValue) (old mid ready new : View) (sound : Sound image old) (mid_sound : Sound image mid) (ready_sound : Sound image ready)
    → ready.next < DISPATCH_NUMBERS → (tile id : ℕ) (task : Task)
    → IsLeastTask old id task → task.status ≡ Idle → task.tile ≡ tile → {aborted : ℕ} → FreesCore tile old aborted mid
    → FreesNumber mid ready
    → (d : Dispatches tile ready new) → IsLeastTask new d.id (now ready new tile d)
dispatched_is_least image old mid ready new sound mid_sound ready_sound left tile id task least idle there forced number d =
    let low = ready_low mid ready tile task.key (still_low image old sound tile id task least idle there forced mid_sound) number in
    started_is_least image ready new ready_sound tile low.0 low.1 left d
