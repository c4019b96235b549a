use Rattle.std.proofs.Common.{sym, subst}
use Rattle.fractal_vt.specs.Sorted.{IsInOrder}
use Rattle.spill_store.specs.SpilledTasks.{by_key, HoldsSpilled}
use Rattle.spill_store.proofs.Pushed.{order_renumbered}
use Rattle.spill_store.proofs.block.Block.renumber.Goals as goal

pub invariant_of-self : goal.invariant_of-self
invariant_of-self c =
    subst (IsInOrder by_key) (sym c.renumber.ensures.tasks)
    (order_renumbered c.args.table.now c.self.inside.shelf.tasks (subst (λ v. HoldsSpilled c.args.table.now v.tasks) (sym c.self.view_is) c.requires.held) c.self.invariant)
