-- Where nothing was counted nothing stopped.
use Rattle.std.proofs.Common.{◌≡◌, ℕ, refl}
use Rattle.watch_counts.specs.declared.counts.Counts.{Counts}
use Rattle.watch_counts.specs.declared.places.PlaceCounts.{PlaceCounts}
use Rattle.watch_counts.specs.Capped.{capped, capped_counts, capped_places}
use Rattle.watch_counts.specs.Nothing.{no_counts}

pub none_capped : (opening : ℕ) (standing : PlaceCounts)
    → ◌≡◌ {A = Counts} (capped_counts (record no_counts { opening = opening; standing = standing }))
    (record no_counts { opening = capped opening; standing = capped_places standing })
unfolding capped
none_capped opening standing = refl
