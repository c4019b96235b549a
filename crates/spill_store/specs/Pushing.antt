-- Pushing tasks into a block.
use Rattle.std.specs.Prelude.{◌≡◌, List, [], ◌∷◌, ◌++◌, filter}
use Rattle.std.specs.List.Sorted.{IsPermutation}
use Rattle.std.specs.Ordering.{is_eq}
use Rattle.fractal_vt.specs.Sorted.{IsInOrder}
use Rattle.spill_store.specs.SpilledTasks.{Spilled, by_key, after_push}

-- the tasks after several pushes, one after another
abbrev pub after_pushes : List Spilled → List Spilled → List Spilled
after_pushes tasks [] = tasks
after_pushes tasks (task ∷ more) = after_pushes (after_push tasks task) more

-- an empty block has what is pushed into it, each task once, none after one with a greater key
abbrev pub PushesStandInOrder : Type 0
PushesStandInOrder = (tasks : List Spilled)
    → IsPermutation tasks (after_pushes [] tasks) × IsInOrder by_key (after_pushes [] tasks)

-- the tasks of the same key as this one, in their order
abbrev pub of_same_key : Spilled → List Spilled → List Spilled
of_same_key task tasks = filter (λ other. is_eq (by_key task other)) tasks

-- of the tasks of one key, the pushed one is the last, and the others stay in their order
abbrev pub PushGoesBehindTies : Type 0
PushGoesBehindTies =
    (tasks : List Spilled) (task : Spilled) → IsInOrder by_key tasks
    → of_same_key task (after_push tasks task) ≡ of_same_key task tasks ++ task ∷ []
