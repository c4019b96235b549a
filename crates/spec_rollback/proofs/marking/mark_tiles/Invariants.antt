use Rattle.spec_rollback.specs.Marking.{conflicts_at, IsInTiles, Finds, held_in, ids_in}
use Rattle.spec_rollback.proofs.marking.mark_tiles.Given as goal

abbrev pub invariant-loop-tile : goal.invariant-loop-tile
invariant-loop-tile l =
    let a = l.access in
    Finds (conflicts_at a.tasks.now.slots a.task.now a.line a.write)
    (IsInTiles (held_in l.tiles) (ids_in l.tiles) l.tile) l.found l.initial.marks l.initial.members l.many l.marks
    l.members
