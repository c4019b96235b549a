-- What an event forces leaves the heir the heir.
use Rattle.std.proofs.Common.{ℕ, ◌≡◌, ◌≢◌, inr, Bool, Some, refl, sym, ap, subst, ◌∙◌}
use Rattle.std.specs.declared.cmp.Ordering.TheVariants.{Less}
use Rattle.std.proofs.lemmas.Cmp.{tied_itself}
use Rattle.fractal_vt.specs.Keys.{key_cmp}
use Rattle.fractal_vt.proofs.Proved.{key_cmp_total}
use Rattle.guest_image.specs.ImageValue.{ImageValue}
use Rattle.event_def.specs.spec_state.declared.task.Task.{Task}
use Rattle.event_def.specs.spec_state.View.{View, task_at}
use Rattle.event_def.specs.spec_state.Aborts.{Aborts, OnlyNode}
use Rattle.event_def.specs.spec_state.Least.{IsHeir}
use Rattle.event_def.specs.spec_state.Queries.{Conflicts, IsLater}
use Rattle.event_def.specs.spec_state.Room.{Enqueuer, Coalesces, MakesRoom, queue_has_room, coalesces, aborts_victim}
use Rattle.event_def.specs.spec_state.Room.{aborts_creator}
use Rattle.spec_law.specs.Sound.{Sound}
use Rattle.spec_law.specs.AbortLaws.{AllConflicts, OneTask}
use Rattle.spec_law.proofs.Proved.{abort_keeps_heir, abort_of_one_is_sound, cascade_spares_heir}
use Rattle.spec_law.proofs.Proved.{coalesce_moves, coalesce_sizes, conflicts_spare_heir, heirs_are_one, moved_heir}
use Rattle.spec_law.proofs.Proved.{victim_is_later}
use Rattle.event_def.specs.Events.{FreesCommit}
use Rattle.event_def.specs.Events as events
use Rattle.event_law.proofs.Keeps.Forced.{spared_stays}

module _ (image : ImageValue) (old : View) (sound : Sound image old) (id : ℕ) (is : IsHeir old (Some id)) where
  -- it is the heir of the sound view
  pub the_heir : sound.heir ≡ Some id
  the_heir = heirs_are_one old sound.heir id sound.is_heir is

  -- another task is not
  other_heir : (first : ℕ) → first ≢ id → sound.heir ≢ Some first
  other_heir first other heir =
      let both : Some first ≡ Some id = sym heir ∙ the_heir in
      let same : first ≡ id = cc in
      other same

  -- an abort of another task leaves it as it was
  pub abort_leaves_it : (first : ℕ) (task : Task) (aborted : ℕ) (mid : View) → task_at old first ≡ Some task
      → first ≢ id → Aborts (OnlyNode first) old aborted mid
      → task_at mid id ≡ task_at old id
  abort_leaves_it first task aborted mid there other aborts =
      spared_stays (OnlyNode first) old mid aborted id aborts
      (cascade_spares_heir image old first task aborts.marks sound there (other_heir first other) aborts.cascade id the_heir)

  -- and the heir
  pub abort_leaves_heir : (first : ℕ) (task : Task) (aborted : ℕ) (mid : View) → task_at old first ≡ Some task
      → first ≢ id → Aborts (OnlyNode first) old aborted mid
      → IsHeir mid (Some id)
  abort_leaves_heir first task aborted mid there other aborts =
      subst (IsHeir mid) the_heir
      (abort_keeps_heir (OneTask first) old aborted mid sound.heir aborts
      (cascade_spares_heir image old first task aborts.marks sound there (other_heir first other) aborts.cascade) sound.order sound.sizes sound.is_heir)

  -- one of all that conflict with an access leaves it as it was
  pub conflicts_leave_it : (taker line : ℕ) (task : Task) (write : Bool) (aborted : ℕ) (mid : View)
      → task_at old taker ≡ Some task
      → Aborts (Conflicts old task line write) old aborted mid → task_at mid id ≡ task_at old id
  conflicts_leave_it taker line task write aborted mid there aborts =
      spared_stays (Conflicts old task line write) old mid aborted id aborts
      (conflicts_spare_heir image old taker line task write aborts.marks sound there aborts.cascade id the_heir)

  -- and the heir
  pub conflicts_leave_heir : (taker line : ℕ) (task : Task) (write : Bool) (aborted : ℕ) (mid : View)
      → task_at old taker ≡ Some task
      → Aborts (Conflicts old task line write) old aborted mid → IsHeir mid (Some id)
  conflicts_leave_heir taker line task write aborted mid there aborts =
      subst (IsHeir mid) the_heir
      (abort_keeps_heir (AllConflicts task line write) old aborted mid sound.heir aborts
      (conflicts_spare_heir image old taker line task write aborts.marks sound there aborts.cascade) sound.order sound.sizes sound.is_heir)

  -- so does a coalescing
  pub coalesce_leaves_heir : (tile : ℕ) (new : View) → Coalesces tile old new → IsHeir new (Some id)
  coalesce_leaves_heir tile new c =
      subst (IsHeir new) the_heir
      (subst (λ v. IsHeir v sound.heir) (sym c.frame)
      (moved_heir old new sound.heir (coalesce_moves image old new sound.heir sound.serial tile sound.tasks sound.sizes c) sound.order sound.sizes
      (coalesce_sizes image old new sound.heir sound.serial tile sound.tasks sound.order sound.sizes c) sound.is_heir))

module _ (image : ImageValue) (old : View) (sound : Sound image old) (id : ℕ) (is : IsHeir old (Some id)) where
  -- making room for it leaves it the heir
  pub room_leaves_heir : (tile : ℕ) {aborted : ℕ} {mid : View} → MakesRoom tile (Enqueuer id) old aborted mid
      → IsHeir mid (Some id)
  room_leaves_heir tile (queue_has_room free) = is
  room_leaves_heir tile (coalesces new full moves) = coalesce_leaves_heir image old sound id is tile new moves
  room_leaves_heir tile (aborts_victim aborted v x mid new full none least victim firm aborts moves) =
      let apart : v ≢ id = λ same. victim.other (ap Enqueuer (sym same)) in
      let other : sound.heir ≢ Some v = λ heir. (let both : Some id ≡ Some v = sym (the_heir image old sound id is) ∙ heir in let same : id ≡ v = cc in victim.other (ap Enqueuer same)) in
      let now = (abort_of_one_is_sound image v x old aborted mid sound victim.there other aborts).0 in
      coalesce_leaves_heir image mid now id (abort_leaves_heir image old sound id is v x aborted mid victim.there apart aborts) tile new moves
  room_leaves_heir tile (aborts_creator aborted v creator x new full none least victim loose made_by aborts) =
      let may = victim_is_later image old tile (Enqueuer id) is.0.key v creator x sound (is.0, is.1, is.2, refl) none victim (inr (loose, made_by)) in
      abort_leaves_heir image old sound id is creator may.task aborted new may.there (λ same. may.other (ap Enqueuer (sym same))) aborts

  -- a later task than this one is another
  later_is_other : (task : Task) → task_at old id ≡ Some task → (v : ℕ) (x : Task) → IsLater old task v x → v ≢ id
  later_is_other task there v x later same =
      let both : Some x ≡ Some task = sym later.there ∙ (ap (task_at old) same ∙ there) in
      let one : x ≡ task = cc in
      let itself : key_cmp task.key task.key ≡ Less = subst (λ (t : Task). key_cmp task.key t.key ≡ Less) one later.later in
      absurd (cc (itself, tied_itself key_cmp_total task.key))

  -- freeing a place of the commit queue for it leaves it the heir
  pub commit_leaves_heir : (tile : ℕ) (task : Task) → task_at old id ≡ Some task → {aborted : ℕ} {mid : View}
      → FreesCommit tile task old aborted mid → IsHeir mid (Some id)
  commit_leaves_heir tile task there (events.has_free free) = is
  commit_leaves_heir tile task there (events.aborts_latest aborted v x new full latest later aborts) =
      abort_leaves_heir image old sound id is v x aborted new later.there (later_is_other task there v x later) aborts

  -- and as it was
  pub commit_leaves_it : (tile : ℕ) (task : Task) → task_at old id ≡ Some task → {aborted : ℕ} {mid : View}
      → FreesCommit tile task old aborted mid
      → task_at mid id ≡ Some task
  commit_leaves_it tile task there (events.has_free free) = there
  commit_leaves_it tile task there (events.aborts_latest aborted v x new full latest later aborts) =
      abort_leaves_it image old sound id is v x aborted new later.there (later_is_other task there v x later) aborts
      ∙ there

  -- which leaves the settings
  pub commit_settings : (tile : ℕ) (task : Task) {aborted : ℕ} {mid : View} → FreesCommit tile task old aborted mid
      → mid.settings ≡ old.settings
  commit_settings tile task (events.has_free free) = refl
  commit_settings tile task (events.aborts_latest aborted v x new full latest later aborts) =
      ap (λ view. view.settings) aborts.frame
