-- The least idle task of a tile.
use Rattle.std.proofs.Common.{ℕ, ◌≡◌, ◌≢◌, Some, refl, sym, ap, subst, ◌∙◌}
use Rattle.std.specs.Prelude.{slice_get}
use Rattle.std.specs.declared.cmp.Ordering.TheVariants.{Less, Greater}
use Rattle.fractal_vt.specs.Keys.{key_cmp}
use Rattle.fractal_vt.proofs.Proved.{less_of, then_equal}
use Rattle.guest_image.specs.ImageValue.{ImageValue}
use Rattle.event_law.specs.spec_state.declared.task.Status.TheVariants.{Idle}
use Rattle.event_law.specs.spec_state.declared.task.Task.{Task}
use Rattle.event_law.specs.spec_state.View.{View, queue_at}
use Rattle.event_law.specs.spec_state.Least.{Queued, IsQueuedAt, IsLeastTask, ranked_cmp, spot_cmp}
use Rattle.event_law.specs.spec_state.Queries.{IsLeastIdle}
use Rattle.event_law.specs.spec_law.Sound.{Sound, SoundSizes}
use Rattle.event_law.proofs.Below.spec_law.Proved.{distinct_at, least_key, same_spot}
use Rattle.event_law.proofs.Proved.{is_idle}
use Rattle.tile_queues.proofs.Proved.{one_place}

module _ (view : View) (sizes : SoundSizes view) (tile id : ℕ) (task : Task) (least : IsLeastTask view id task) (there : task.tile ≡ tile) where
  -- the least task stands at one place of its tile
  least_at : IsQueuedAt view tile least.place id task
  least_at = subst (λ t. IsQueuedAt view t least.place id task) there least.queued_at

  -- another task of its tile ranks behind it
  least_before : (k : ℕ) → k ≢ id → (q : ℕ) (y : Task) → IsQueuedAt view tile q k y
      → ranked_cmp task.key (Queued tile least.place) y.key (Queued tile q) ≡ Less
  least_before k other q y at =
      let upto : ranked_cmp task.key (Queued tile least.place) y.key (Queued tile q) ≢ Greater =
      subst (λ key. ranked_cmp key (Queued tile least.place) y.key (Queued tile q) ≢ Greater) (least_key view id task least)
      (subst (λ t. ranked_cmp least.least.key (Queued t least.place) y.key (Queued tile q) ≢ Greater) there
      (least.least.least (Queued tile q) y.key (k, y, at, refl))) in
      less_of (ranked_cmp task.key (Queued tile least.place) y.key (Queued tile q)) upto
      (λ tie.
      let spots : Queued tile least.place ≡ Queued tile q =
      same_spot (Queued tile least.place) (Queued tile q) (then_equal (key_cmp task.key y.key) (spot_cmp (Queued tile least.place) (Queued tile q)) tie) in
      let places : least.place ≡ q = cc in
      let both : Some k ≡ Some id = sym at.queued ∙ (ap (slice_get (queue_at view tile)) (sym places) ∙ least_at.queued) in
      let same : k ≡ id = cc in
      other same)

  -- so, where it is idle, it is the least idle one of its tile
  pub least_is_least_idle : task.status ≡ Idle → IsLeastIdle view tile id task
  least_is_least_idle idle = record {
    idle = is_idle view tile id task least idle there;
    least = λ k x other idle_too p q y z at at_other.
        let places : least.place ≡ p = one_place (queue_at view tile) least.place p id (distinct_at view.settings.task_queue view.queues tile sizes.task_queues)
        least_at.queued at.queued in
        let both : Some task ≡ Some y = sym least.queued_at.there ∙ at.there in
        let same : task ≡ y = cc in
        (λ i. ranked_cmp (sym same i).key (Queued tile (sym places i)) z.key (Queued tile q))
        ∙ least_before k other q z at_other;
  }

-- an idle least task is the least idle one of its tile
pub least_idle : (image : ImageValue) (view : View) (id : ℕ) (task : Task) → Sound image view
    → IsLeastTask view id task → task.status ≡ Idle
    → IsLeastIdle view task.tile id task
least_idle image view id task sound least idle = least_is_least_idle view sound.sizes task.tile id task least refl idle
