use Rattle.std.proofs.Common.{◌≡◌, ◌++◌, map, take, drop, option_map}
use Rattle.spec_state.specs.Numbers.{renumbered_task}
use Rattle.spec_dispatch.proofs.renumbering.renumber_tasks.Given as goal

abbrev pub invariant-loop-slot : goal.invariant-loop-slot
invariant-loop-slot l =
    (l.tasks.slots ≡ map (option_map (renumbered_task l.table)) (take l.slot l.fn.tasks.slots) ++ drop l.slot l.fn.tasks.slots)
    × (l.tasks.capacity ≡ l.fn.tasks.capacity)
