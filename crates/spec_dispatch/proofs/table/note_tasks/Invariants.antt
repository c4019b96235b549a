use Rattle.std.proofs.Common.{◌≡◌, ◌≤◌, ◌+◌, ◌++◌, length}
use Rattle.std.specs.Prelude.{vec_len, vec_capacity}
use Rattle.slab.specs.Slab.{entries, slab_len}
use Rattle.spec_dispatch.specs.Table.{dispatch_numbers_of}
use Rattle.spec_dispatch.proofs.table.note_tasks.Given as goal

abbrev pub invariant-loop-task : goal.invariant-loop-task
invariant-loop-task l =
    (goal.iterator-loop-task).can_next l.task-iterator
    × (goal.iterator-loop-task).is_finite l.task-iterator
    × (l.numbers.items ++ dispatch_numbers_of l.task-iterator
    ≡ l.fn.numbers.items ++ dispatch_numbers_of (entries l.tasks))
    × (vec_len l.numbers + length l.task-iterator ≤ vec_len l.fn.numbers + slab_len l.tasks)
    × (vec_capacity l.fn.numbers ≤ vec_capacity l.numbers)
