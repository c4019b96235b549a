-- What making room in a task queue leaves.
use Rattle.std.proofs.Common.{ℕ, ◌≡◌, ◌≢◌, inl, inr, Option, Some, None, refl, sym, ap, subst, ◌∙◌}
use Rattle.fractal_vt.specs.declared.key.Key.{Key}
use Rattle.guest_image.specs.ImageValue.{ImageValue}
use Rattle.event_def.specs.spec_state.declared.task.Status.TheVariants.{Idle}
use Rattle.event_def.specs.spec_state.declared.task.Task.{Task}
use Rattle.event_def.specs.spec_state.View.{View, task_at}
use Rattle.event_def.specs.spec_state.Aborts.{Aborts, OnlyNode}
use Rattle.event_def.specs.spec_state.Room.{Asker, Enqueuer, Coalesces, QueueHasRoom, IsLeastAsker, IsVictim, MakesRoom}
use Rattle.event_def.specs.spec_state.Room.{asker_of}
use Rattle.event_def.specs.spec_state.Room.{queue_has_room, coalesces, aborts_victim, aborts_creator}
use Rattle.spec_law.specs.RoomLaws.{AsksAsLeast, MayBeTaken}
use Rattle.spec_law.specs.Sound.{Sound}
use Rattle.spec_law.proofs.Proved.{abort_for_room_is_sound, cascade_spares_heir, coalesce_stays_sound, leaves_place}
use Rattle.spec_law.proofs.Proved.{victim_is_later}
use Rattle.event_law.proofs.Keeps.Forced.{Follows, abort_follows, follows_itself, spared_stays}

-- a task that isn't idle is not moved
pub busy_stays : (tile : ℕ) (old new : View) (id : ℕ) (task : Task) → Coalesces tile old new
    → task_at old id ≡ Some task → task.status ≢ Idle → task_at new id ≡ task_at old id
busy_stays tile old new id task c there busy =
    c.others id (λ moved.
    let movable = c.chosen.movable id moved in
    let both : Some movable.0 ≡ Some task = sym movable.1.idle.there ∙ there in
    let same : movable.0 ≡ task = cc in
    busy (ap (λ t. t.status) (sym same) ∙ movable.1.idle.idle))

-- where the heir asks, it is the task that asks
heir_asks : (heir : Option ℕ) (id : ℕ) → asker_of heir ≡ Enqueuer id → heir ≡ Some id
heir_asks None id is = absurd (cc (is))
heir_asks (Some k) id is = let same : k ≡ id = cc in ap Some same

module _ (image : ImageValue) where
  -- a coalescing leaves a sound view
  pub coalesce_follows : (tile : ℕ) (old new : View) → Sound image old → Coalesces tile old new → Follows image old new
  coalesce_follows tile old new sound c = record {
    now = (coalesce_stays_sound image old new sound tile c).0;
    settings = ap (λ view. view.settings) c.frame;
  }

  -- one view follows another, and that a third
  pub follows_on : (old mid new : View) → Follows image old mid → Follows image mid new → Follows image old new
  follows_on old mid new one two = record { now = two.now; settings = two.settings ∙ one.settings }

  -- for a task that is the heir, where it asks as the least task, or for the least spilled one, where there is no heir
  module _ (tile : ℕ) (asker : Asker) (old : View) (sound : Sound image old) (is_heir : IsLeastAsker old tile asker → asker ≡ asker_of sound.heir) (asks : IsLeastAsker old tile asker → (low : Key) × AsksAsLeast old tile asker low) where
    -- what may be taken back is not the heir
    not_heir : (low : Key) (first : ℕ) → IsLeastAsker old tile asker → MayBeTaken old asker low first
        → sound.heir ≢ Some first
    not_heir low first least may same = may.other (is_heir least ∙ ap asker_of same)

    -- the victim is one for the heir
    of_heir : (v : ℕ) (task : Task) → IsLeastAsker old tile asker → IsVictim old tile asker v task
        → IsVictim old tile (asker_of sound.heir) v task
    of_heir v task least victim = subst (λ a. IsVictim old tile a v task) (is_heir least) victim

    -- the view is sound then
    pub room_follows : {aborted : ℕ} {mid : View} → MakesRoom tile asker old aborted mid → Follows image old mid
    room_follows (queue_has_room free) = follows_itself image old sound
    room_follows (coalesces new full moves) = coalesce_follows tile old new sound moves
    room_follows (aborts_victim aborted v task mid new full none least victim firm aborts moves) =
        let one = abort_follows image (OnlyNode v) old mid aborted aborts
        (abort_for_room_is_sound image tile v v task old aborted mid sound (of_heir v task least victim) (inl (firm, refl)) aborts).0 in
        follows_on old mid new one (coalesce_follows tile mid new one.now moves)
    room_follows (aborts_creator aborted v creator task new full none least victim loose made_by aborts) =
        abort_follows image (OnlyNode creator) old new aborted aborts
        (abort_for_room_is_sound image tile v creator task old aborted new sound (of_heir v task least victim) (inr (loose, made_by)) aborts).0

    -- an abort of a task that may be taken back spares the asker
    asker_stays : (low : Key) (first aborted id : ℕ) (mid : View) → IsLeastAsker old tile asker
        → MayBeTaken old asker low first → Aborts (OnlyNode first) old aborted mid → asker ≡ Enqueuer id
        → task_at mid id ≡ task_at old id
    asker_stays low first aborted id mid least may aborts asks_it =
        spared_stays (OnlyNode first) old mid aborted id aborts
        (cascade_spares_heir image old first may.task aborts.marks sound may.there (not_heir low first least may) aborts.cascade id (heir_asks sound.heir id (sym (is_heir least) ∙ asks_it)))

    -- and a task that asks, and isn't idle, stays as it was
    pub asker_is_there : {aborted : ℕ} {mid : View} (id : ℕ) (task : Task) → asker ≡ Enqueuer id
        → task_at old id ≡ Some task → task.status ≢ Idle
        → MakesRoom tile asker old aborted mid → task_at mid id ≡ Some task
    asker_is_there id task asks_it there busy (queue_has_room free) = there
    asker_is_there id task asks_it there busy (coalesces new full moves) =
        busy_stays tile old new id task moves there busy ∙ there
    asker_is_there id task asks_it there busy (aborts_victim aborted v x mid new full none least victim firm aborts moves) =
        let low = asks least in
        let may = victim_is_later image old tile asker low.0 v v x sound low.1 none victim (inl (firm, refl)) in
        let stays : task_at mid id ≡ Some task = asker_stays low.0 v aborted id mid least may aborts asks_it ∙ there in
        busy_stays tile mid new id task moves stays busy ∙ stays
    asker_is_there id task asks_it there busy (aborts_creator aborted v creator x new full none least victim loose made_by aborts) =
        let low = asks least in
        let may = victim_is_later image old tile asker low.0 v creator x sound low.1 none victim (inr (loose, made_by)) in
        asker_stays low.0 creator aborted id new least may aborts asks_it ∙ there

    -- the tile's queue has a free place
    pub room_is_free : {aborted : ℕ} {mid : View} → MakesRoom tile asker old aborted mid → QueueHasRoom mid tile
    room_is_free makes = leaves_place tile asker old sound.sizes makes
