use Rattle.std.proofs.Common.{subst, sym, vec_capacity, arith}
use Rattle.commit_arbiter.specs.Slots.{IsSlotted}
use Rattle.commit_arbiter.proofs.Numbers.{all_free}
use Rattle.commit_arbiter.proofs.slots.Slots.new.Goals as goal

pub invariant_of-result : goal.invariant_of-result
invariant_of-result c =
    subst (λ order. IsSlotted c.in_ok-table.table.items order c.in_ok-free.free.items (vec_capacity c.in_ok-order.order) (vec_capacity c.in_ok-free.free)) (sym c.in_ok-order.ensures.items)
    (all_free c.in_ok-table.table.items c.in_ok-free.free.items c.args.capacity (vec_capacity c.in_ok-order.order) (vec_capacity c.in_ok-free.free) c.in_ok-table.ensures c.in_ok-free.ensures.items (omega (arith, c.in_ok-order.ensures.capacity)) c.in_ok-free.ensures.spare)
