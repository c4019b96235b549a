-- What stands on the cores and in the commit queue of a tile.
use Rattle.std.proofs.Common.{ℕ, zero, ◌≡◌, ◌≢◌, ◌≤◌, ◌<◌, true, List, [], ◌∷◌, Option, Some, None, refl, sym, ap}
use Rattle.std.proofs.Common.{subst, ◌∙◌, arith, length}
use Rattle.std.specs.Prelude.{slice_get}
use Rattle.std.specs.declared.cmp.Ordering.{Ordering}
use Rattle.std.specs.declared.cmp.Ordering.TheVariants.{Less, Equal, Greater}
use Rattle.fractal_vt.specs.Keys.{key_cmp}
use Rattle.fractal_vt.specs.declared.key.Key.{Key}
use Rattle.fractal_vt.proofs.Proved.{equal_keys_tie, key_cmp_total}
use Rattle.guest_image.specs.ImageValue.{ImageValue}
use Rattle.event_law.specs.spec_state.declared.task.Status.{Status}
use Rattle.event_law.specs.spec_state.declared.task.Status.TheVariants.{Idle, Running, Trapped, Finished}
use Rattle.event_law.specs.spec_state.declared.task.Task.{Task}
use Rattle.event_law.specs.spec_state.View.{View, cores_at, finished_at}
use Rattle.event_law.specs.spec_state.Tasks.{is_dispatched}
use Rattle.event_law.specs.spec_state.Queries.{IsFinished, IsLater, IsLatestFinished, IsOnCore}
use Rattle.event_law.specs.spec_state.Stored.{HasCore}
use Rattle.event_law.specs.spec_law.Sound.{Sound, StandsAs}
use Rattle.event_law.proofs.Below.spec_law.Proved.{some_in}
use Rattle.event_law.specs.event_def.Causes.{AllCoresHeld, IsCommitFull}

module _ (image : ImageValue) (view : View) (sound : Sound image view) where
  -- a task on a core of a tile has a status with that core, and the tile
  pub holder_stands : (tile core id : ℕ) (task : Task) → IsOnCore view tile core id task
      → (task.tile ≡ tile) × HasCore task.status core
  holder_stands tile core id task on =
      let has = (sound.sizes.held_are tile core id).0 on.held in
      let both : Some has.0 ≡ Some task = sym has.1 ∙ on.there in
      let same : has.0 ≡ task = cc in
      (ap (λ (t : Task). t.tile) (sym same) ∙ has.2, subst (λ (t : Task). HasCore t.status core) same has.3)

  -- a task with a core is dispatched
  by_status : (core : ℕ) (task : Task) (status : Status) → HasCore status core
      → StandsAs image view.version view.settings.budget task status → is_dispatched task ≡ true
  by_status core task Idle holds stands = absurd holds
  by_status core task (Running held) holds stands = stands.0
  by_status core task (Trapped held cause) holds stands = stands.0
  by_status core task Finished holds stands = absurd holds

  pub holder_is_dispatched : (tile core id : ℕ) (task : Task) → IsOnCore view tile core id task
      → is_dispatched task ≡ true
  holder_is_dispatched tile core id task on =
      by_status core task task.status (holder_stands tile core id task on).1 (sound.tasks.stands id task on.there)

  -- a task in a commit queue of a tile is finished, and of that tile
  pub finished_stands : (tile id : ℕ) (task : Task) → IsFinished view tile id task
      → (task.tile ≡ tile) × (task.status ≡ Finished)
  finished_stands tile id task finished =
      let has = (sound.sizes.finished_are tile id).0 finished.queued in
      let both : Some has.0 ≡ Some task = sym has.1 ∙ finished.there in
      let same : has.0 ≡ task = cc in
      (ap (λ (t : Task). t.tile) (sym same) ∙ has.2, ap (λ (t : Task). t.status) (sym same) ∙ has.3)

  -- so it is dispatched
  pub finished_is_dispatched : (tile id : ℕ) (task : Task) → IsFinished view tile id task → is_dispatched task ≡ true
  finished_is_dispatched tile id task finished =
      let stands : StandsAs image view.version view.settings.budget task Finished =
      subst (StandsAs image view.version view.settings.budget task) (finished_stands tile id task finished).1 (sound.tasks.stands id task finished.there) in
      stands.0

  -- a finished task of a greater key is a later one
  pub finished_is_later : (tile k : ℕ) (task x : Task) → IsFinished view tile k x → key_cmp task.key x.key ≡ Less
      → IsLater view task k x
  finished_is_later tile k task x finished less =
      record { there = finished.there; dispatched = finished_is_dispatched tile k x finished; later = less }

  -- a full commit queue has a task
  pub full_has_finished : (tile : ℕ) → IsCommitFull view tile → (id : ℕ) × (task : Task) × IsFinished view tile id task
  full_has_finished tile full =
      let one : 1 ≤ view.settings.commit_queue = sound.sizes.settings.commit_queue.0 in
      let many : view.settings.commit_queue ≤ length (finished_at view tile) = full in
      let some = some_in (finished_at view tile) (omega (arith, one, many)) in
      let has = (sound.sizes.finished_are tile some.0).0 some.1 in
      (some.0, has.0, record { queued = some.1; there = has.1 })

  -- where no core is free, a core has a task
  pub held_has_task : (tile : ℕ) → tile < view.settings.tiles → AllCoresHeld view tile
      → (core id : ℕ) × (task : Task) × IsOnCore view tile core id task
  held_has_task tile inside held = by_cores (cores_at view tile) refl
    where
      count : length (cores_at view tile) ≡ view.settings.cores
      count = sound.sizes.core_counts tile [] (subst (λ n. tile < n) (sym sound.sizes.cores) inside)

      by_first : (o : Option ℕ) → slice_get (cores_at view tile) zero ≡ Some o
          → (core id : ℕ) × (task : Task) × IsOnCore view tile core id task
      by_first None free = absurd (held zero free)
      by_first (Some id) on =
          let has = (sound.sizes.held_are tile zero id).0 on in
          (zero, id, has.0, record { held = on; there = has.1 })

      by_cores : (cores : List (Option ℕ)) → cores_at view tile ≡ cores
          → (core id : ℕ) × (task : Task) × IsOnCore view tile core id task
      by_cores [] is =
          let some = sound.sizes.settings.cores.0 in
          let none : length (cores_at view tile) ≡ 0 = ap length is in
          absurd (omega (arith, count, some, none))
      by_cores (o ∷ cores) is = by_first o (ap (λ held. slice_get held zero) is)

-- a key below one that is no greater than a third is below that
less_upto : (a b c : Key) (o : Ordering) → key_cmp b c ≡ o → key_cmp a b ≡ Less → o ≢ Greater → key_cmp a c ≡ Less
less_upto a b c Less is less upto = key_cmp_total.trans a b c less is
less_upto a b c Equal is less upto = subst (λ key. key_cmp a key ≡ Less) ((equal_keys_tie b c).0 is) less
less_upto a b c Greater is less upto = absurd (upto refl)

-- where the latest finished task of a tile isn't later than a task, none is
pub none_is_later : (view : View) (tile v : ℕ) (x task : Task) → IsLatestFinished view tile v x
    → key_cmp task.key x.key ≢ Less
    → (k : ℕ) (y : Task) → IsFinished view tile k y → IsLater view task k y → ⊥
none_is_later view tile v x task latest not_later k y finished later =
    not_later (less_upto task.key y.key x.key (key_cmp y.key x.key) refl later.later (latest.latest k y finished))
