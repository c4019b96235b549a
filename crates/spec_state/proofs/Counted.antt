-- How many ids the queues hold, with one more.
use Rattle.std.proofs.Common.{◌≡◌, ◌<◌, ◌≤◌, ◌+◌, ◌*◌, ◌∷◌, ◌++◌, ℕ, List, [], length, sym, ap, subst, ◌∙◌, arith}
use Rattle.std.proofs.Common.{slice_index_or}
use Rattle.std.specs.Prelude.{All, slice_set, count_by, is_some}
use Rattle.std.proofs.lemmas.List.{length_push, length-set}
use Rattle.std.proofs.lemmas.List.Elements.{All-set}
use Rattle.std.proofs.lemmas.List.Sums.{sum_by-set, sum_by-le}
use Rattle.std.proofs.Common.{Option}
use Rattle.std.proofs.Math.Nat.{mul-le-mul}
use Rattle.tile_queues.specs.Queue.{QueueValue}
use Rattle.spec_state.specs.Fits.{queued_count, HasSlots, HasTiles, SlotCounts}
use Rattle.spec_state.specs.declared.settings.Settings.{Settings}
use Rattle.spec_state.specs.declared.task.Task.{Task}
use Rattle.spec_state.specs.Settings.{IsValid}

module _ (queues : List QueueValue) (tile bound id : ℕ) (queue after : QueueValue) (short : All (λ q. length q.ids ≤ bound) queues) (within : tile < length queues)
    (is : queue ≡ slice_index_or queues tile queue) (free : length queue.ids < bound) (ids : after.ids ≡ queue.ids ++ id ∷ []) where
  longer : length after.ids ≡ length queue.ids + 1
  longer = ap length ids ∙ length_push queue.ids id

  -- none is too long
  pub still_short : All (λ q. length q.ids ≤ bound) (slice_set queues tile after)
  still_short = All-set (λ q. length q.ids ≤ bound) queues tile after (omega (arith, longer)) short

  -- it is one more
  pub one_more : queued_count (slice_set queues tile after) ≡ queued_count queues + 1
  one_more =
      let set = sum_by-set (λ q. length q.ids) queues tile after queue within in
      let was : length (slice_index_or queues tile queue).ids ≡ length queue.ids = ap (λ q. length q.ids) (sym is) in
      omega (arith, set, was, longer)

  -- and there was a place for it
  pub has_room : queued_count queues + 1 ≤ length queues * bound
  has_room =
      let fits = sum_by-le (λ q. length q.ids) bound (slice_set queues tile after) still_short in
      let fits' : queued_count (slice_set queues tile after) ≤ length queues * bound = subst (λ n. queued_count (slice_set queues tile after) ≤ n * bound) (length-set queues tile after) fits in
      omega (arith, one_more, fits')

-- a state has at most 4,096 queued tasks
pub few_tasks : (settings : Settings) (tasks : List (Option Task)) (queues finished : List QueueValue)
    (core_lists block_lists : ℕ) (counts : SlotCounts)
    → IsValid settings → HasTiles settings queues finished core_lists block_lists
    → HasSlots settings tasks queues counts → count_by is_some tasks ≤ 4096
few_tasks settings tasks queues finished core_lists block_lists counts valid tiles has =
    let fits : queued_count queues ≤ length queues * settings.task_queue = sum_by-le (λ q. length q.ids)
    settings.task_queue queues has.short in
    let few : length queues ≤ 16 = (let is = tiles.queue_count in let upto = valid.tiles.1 in omega (arith, is, upto))
    in
    let product : length queues * settings.task_queue ≤ 16 * 256 = mul-le-mul few valid.task_queue.1 in
    omega (arith, fits, product, has.used)
