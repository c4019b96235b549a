-- Taking out one task after another.
use Rattle.std.specs.Prelude.{◌≡◌, ◌≢◌, List, [], ◌∷◌, AllPairs}
use Rattle.std.specs.List.Sorted.{IsPermutation}
use Rattle.std.specs.declared.cmp.Ordering.TheVariants.{Greater}
use Rattle.fractal_vt.specs.Keys.{key_cmp}
use Rattle.spill_store.specs.SpilledTasks.{Spilled, open_key, TakesLeast}

-- taking the least task until none is left gives the second list, in its order
abbrev pub Drains : List Spilled → List Spilled → Type 0
Drains tasks [] = tasks ≡ []
Drains tasks (task ∷ taken) = (others : List Spilled) × TakesLeast tasks others task × Drains others taken

-- each task is taken once, and none after one with a greater key
abbrev pub ComesBackLeastFirst : Type 0
ComesBackLeastFirst =
    (tasks taken : List Spilled) → Drains tasks taken
    → IsPermutation tasks taken × AllPairs (λ first later. key_cmp (open_key first) (open_key later) ≢ Greater) taken
