use Rattle.std.proofs.Common.{[], vec_capacity, sym, subst}
use Rattle.std.specs.VecDeque.{deque_capacity}
use Rattle.spill_store.specs.Shelved.{IsShelved}
use Rattle.spill_store.proofs.Shelves.{none_shelved}
use Rattle.spill_store.proofs.shelf.Shelf.new.Goals as goal

pub invariant_of-result : goal.invariant_of-result
invariant_of-result c =
    let order_capacity = deque_capacity c.new-2.result in
    let kept_capacity = vec_capacity c.new.result in
    let free_capacity = vec_capacity c.new-3.result in
    subst (λ kept. IsShelved kept c.new-2.result.items c.new-3.result.items 0 order_capacity kept_capacity free_capacity) (sym c.new.ensures.items)
    (subst (λ order. IsShelved [] order c.new-3.result.items 0 order_capacity kept_capacity free_capacity) (sym c.new-2.ensures.items)
    (subst (λ free. IsShelved [] [] free 0 order_capacity kept_capacity free_capacity) (sym c.new-3.ensures.items) (none_shelved order_capacity kept_capacity free_capacity)))
