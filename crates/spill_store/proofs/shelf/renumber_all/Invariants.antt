use Rattle.std.proofs.Common.{◌≡◌, ◌++◌, map, take, drop}
use Rattle.spill_store.specs.SpilledTasks.{renumbered_spilled}
use Rattle.spill_store.proofs.shelf.renumber_all.Given as goal

abbrev pub invariant-loop-one : goal.invariant-loop-one
invariant-loop-one l =
    l.kept ≡ map (renumbered_spilled l.table) (take l.one-index l.initial.kept) ++ drop l.one-index l.initial.kept
