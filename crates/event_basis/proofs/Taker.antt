-- What is forced for an access or an end call leaves the task that asks as it was.
use Rattle.std.proofs.Common.{ℕ, ◌≡◌, ◌≢◌, ◌<◌, ◌/◌, Bool, true, false, not, List, [], Some, refl, sym, ap, subst, ◌∙◌}
use Rattle.std.proofs.Common.{arith, length}
use Rattle.std.specs.Prelude.{filter, slice_index_or}
use Rattle.std.specs.declared.cmp.Ordering.TheVariants.{Less}
use Rattle.std.proofs.lemmas.Cmp.{tied_itself}
use Rattle.std.proofs.lemmas.Bool.{false_from_ne_true}
use Rattle.fractal_vt.specs.Keys.{key_cmp}
use Rattle.fractal_vt.proofs.Proved.{key_cmp_total}
use Rattle.guest_image.specs.ImageValue.{ImageValue}
use Rattle.rv_core.specs.LegValue.{LegValue}
use Rattle.event_law.specs.spec_state.declared.task.Task.{Task}
use Rattle.event_law.specs.spec_state.View.{View, task_at, finished_at}
use Rattle.event_law.specs.spec_state.Aborts.{Aborts, OnlyNode, is_marked}
use Rattle.event_law.specs.spec_state.Changes.{TakesLeg}
use Rattle.event_law.specs.spec_state.Queries.{Conflicts, IsLater}
use Rattle.event_law.specs.spec_law.Sound.{Sound}
use Rattle.event_law.proofs.Below.spec_law.Proved.{abort_of_conflicts_is_sound, abort_of_later_is_sound}
use Rattle.event_law.proofs.Below.spec_law.Proved.{cascade_is_later}
use Rattle.event_law.proofs.Below.spec_law.Proved.{conflicts_spare_asker, list_mapped}
use Rattle.event_law.specs.event_def.Events.{FreesCommit, TakesConflicts}
use Rattle.event_law.specs.event_def.Events as events
use Rattle.event_law.proofs.Proved.{at_each_place, filter_fewer, FitsQueue, none_fit, spared_stays}
use Rattle.event_basis.specs.Forcing.{TakesStill}
use Rattle.event_basis.proofs.Forced.{abort_like, commit_like, takes_still}

module _ (image : ImageValue) (old : View) (sound : Sound image old) (tile core id : ℕ) (leg : LegValue) (task : Task) (takes : TakesLeg old tile core leg id task) where
  -- the task is queued
  there : task_at old id ≡ Some task
  there = takes.runs.on.there

  -- once what conflicts with its access is taken back, it takes its leg still
  conflicts_spare : (offset : ℕ) (write : Bool) (aborted : ℕ) (mid : View)
      → TakesConflicts task offset write old aborted mid
      → TakesStill image tile core leg id task old mid
  conflicts_spare offset write aborted mid forced =
      let line : ℕ = offset / old.settings.line in
      let firsts : ℕ → Type 0 = Conflicts old task line write in
      takes_still image old mid tile core id leg task sound takes
      (abort_of_conflicts_is_sound image id line task write old aborted mid sound there forced).0 (abort_like firsts old mid aborted forced)
      (spared_stays firsts old mid aborted id forced
      (false_from_ne_true (is_marked forced.marks id) (conflicts_spare_asker image old id line task write forced.marks sound there forced.cascade))
      ∙ there)

  -- no task is below itself
  not_below_itself : key_cmp task.key task.key ≡ Less → ⊥
  not_below_itself less = absurd (cc (less, tied_itself key_cmp_total task.key))

  -- what is above a later task is another
  above_is_other : (x y : Task) → key_cmp task.key x.key ≡ Less → task_at old id ≡ Some y → key_cmp x.key y.key ≡ Less
      → ⊥
  above_is_other x y later at above =
      let both : Some y ≡ Some task = sym at ∙ there in
      let this : y ≡ task = cc in
      not_below_itself (key_cmp_total.trans task.key x.key task.key later (subst (λ (t : Task). key_cmp x.key t.key ≡ Less) this above))

  -- the cascade of a later task spares this one
  later_spares : (v : ℕ) (x : Task) (aborted : ℕ) (mid : View) → IsLater old task v x
      → (aborts : Aborts (OnlyNode v) old aborted mid) → is_marked aborts.marks id ≡ false
  later_spares v x aborted mid later aborts =
      false_from_ne_true (is_marked aborts.marks id)
      (λ marked.
      let apart : id ≢ v = λ same.
      (let both : Some task ≡ Some x = sym there ∙ (ap (task_at old) same ∙ later.there) in
      let this : task ≡ x = cc in
      not_below_itself (subst (λ (t : Task). key_cmp task.key t.key ≡ Less) (sym this) later.later)) in
      let above = cascade_is_later image old v x aborts.marks sound later.there aborts.cascade id marked apart in
      above_is_other x above.0 later.later above.1 above.2)

  -- once a place of its tile's commit queue is freed for it, the view is sound, and it stays as it was
  commit_spares : {aborted : ℕ} {mid : View} → FreesCommit tile task old aborted mid
      → Sound image mid × (task_at mid id ≡ Some task)
  commit_spares (events.has_free free) = (sound, there)
  commit_spares (events.aborts_latest aborted v x new full latest later aborts) = (
    (abort_of_later_is_sound image id v task x old aborted new sound there later aborts).0,
    spared_stays (OnlyNode v) old new aborted id aborts (later_spares v x aborted new later aborts) ∙ there,
  )

  -- the commit queue has a free place then
  commit_is_free : {aborted : ℕ} {mid : View} → FreesCommit tile task old aborted mid
      → length (finished_at mid tile) < mid.settings.commit_queue
  commit_is_free (events.has_free free) = free
  commit_is_free (events.aborts_latest aborted v x new full latest later aborts) =
      let fits = (at_each_place (FitsQueue old.settings.commit_queue) old.finished tile [] sound.sizes.commit_queues (none_fit old.settings.commit_queue)).0 in
      let left : finished_at new tile ≡ filter (λ k. not (is_marked aborts.marks k)) (finished_at old tile) =
      ap (λ (lists : List (List ℕ)). slice_index_or lists tile []) aborts.finished
      ∙ list_mapped (filter (λ k. not (is_marked aborts.marks k))) refl old.finished tile in
      let marked : is_marked aborts.marks v ≡ true = aborts.cascade.least.holds v refl in
      let fewer = filter_fewer (λ k. not (is_marked aborts.marks k)) (finished_at old tile) v latest.of_kind.queued (ap (λ b. not (not b)) marked) in
      let less : length (finished_at new tile) < old.settings.commit_queue = subst (λ (ids : List ℕ). length ids < old.settings.commit_queue) (sym left) (omega (arith, fits, fewer)) in
      subst (λ s. length (finished_at new tile) < s.commit_queue) (sym (ap (λ view. view.settings) aborts.frame)) less

-- where what conflicts with an access is taken back, the task that makes it stays and asks for the same
pub conflicts_leave_taker : (image : ImageValue) (old : View) (tile core id : ℕ) (leg : LegValue) (task : Task) (offset : ℕ) (write : Bool) (aborted : ℕ) (mid : View)
    → Sound image old → TakesLeg old tile core leg id task → TakesConflicts task offset write old aborted mid
    → TakesStill image tile core leg id task old mid
conflicts_leave_taker image old tile core id leg task offset write aborted mid sound takes forced =
    conflicts_spare image old sound tile core id leg task takes offset write aborted mid forced

-- where a place of the commit queue is freed for its end call, likewise
pub commit_leaves_taker : (image : ImageValue) (old : View) (tile core id : ℕ) (leg : LegValue) (task : Task) (aborted : ℕ) (mid : View)
    → Sound image old → TakesLeg old tile core leg id task → FreesCommit tile task old aborted mid
    → TakesStill image tile core leg id task old mid
commit_leaves_taker image old tile core id leg task aborted mid sound takes forced =
    let spared = commit_spares image old sound tile core id leg task takes forced in
    takes_still image old mid tile core id leg task sound takes spared.0 (commit_like tile task old forced) spared.1

-- and the commit queue has a free place
pub commit_leaves_place : (image : ImageValue) (old : View) (tile core id : ℕ) (leg : LegValue) (task : Task) (aborted : ℕ) (mid : View)
    → Sound image old → TakesLeg old tile core leg id task → FreesCommit tile task old aborted mid
    → length (finished_at mid tile) < mid.settings.commit_queue
commit_leaves_place image old tile core id leg task aborted mid sound takes forced =
    commit_is_free image old sound tile core id leg task takes forced
