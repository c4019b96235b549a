use Rattle.std.proofs.Common.{◌<◌, ◌≤◌, ℕ, length, get_or}
use Rattle.place_policy.proofs.least_loaded.place_of_least.Given as goal

abbrev pub invariant-loop-tile : goal.invariant-loop-tile
invariant-loop-tile l =
    (l.lowest < length l.loads)
    × ((k : ℕ) → k < l.tile → get_or l.loads l.lowest 0 ≤ get_or l.loads k 0)
    × ((k : ℕ) → k < l.lowest → get_or l.loads l.lowest 0 < get_or l.loads k 0)
