-- Each list of several has distinct ids, where all have.
use Rattle.std.proofs.Common.{◌≤◌, ◌∷◌, ℕ, zero, suc, List, [], length, arith, slice_index_or}
use Rattle.std.specs.Prelude.{All}
use Rattle.std.proofs.lemmas.List.Elements.{All-head, All-tail}
use Rattle.tile_queues.specs.Queue.{AreDistinct}

-- each of the lists has distinct ids, where all that are there do
pub distinct_at : (bound : ℕ) (lists : List (List ℕ)) (k : ℕ)
    → All (λ ids. (length ids ≤ bound) × AreDistinct ids) lists → AreDistinct (slice_index_or lists k [])
distinct_at bound [] k each = λ i j d lt within. absurd (omega arith)
distinct_at bound (ids ∷ lists) zero each = (All-head (λ ids. (length ids ≤ bound) × AreDistinct ids) ids lists each).1
distinct_at bound (ids ∷ lists) (suc k) each =
    distinct_at bound lists k (All-tail (λ ids. (length ids ≤ bound) × AreDistinct ids) ids lists each)
