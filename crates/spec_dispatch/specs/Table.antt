-- The dispatch numbers that the path and the dispatched tasks have.
use Rattle.std.specs.Prelude.{ℕ, List, ◌++◌, map, filter_map}
use Rattle.fractal_vt.specs.declared.level.Level.{Level}
use Rattle.slab.specs.Slab.{Slab, entries}
use Rattle.spec_state.specs.declared.task.Task.{Task}

-- the numbers of those of these tasks that are dispatched
abbrev pub dispatch_numbers_of : List (ℕ × Task) → List ℕ
dispatch_numbers_of tasks = filter_map (λ held. held.1.key.tb) tasks

-- the tiebreakers of the path, and then the numbers of the dispatched tasks
abbrev pub held_numbers : List Level → Slab Task → List ℕ
held_numbers path tasks = map (λ level. level.tb) path ++ dispatch_numbers_of (entries tasks)
