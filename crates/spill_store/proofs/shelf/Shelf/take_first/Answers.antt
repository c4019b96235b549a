use Rattle.std.proofs.Common.{vec_capacity, sym, subst, arith}
use Rattle.std.specs.VecDeque.{deque_capacity}
use Rattle.spill_store.specs.Shelved.{IsShelved}
use Rattle.spill_store.proofs.Shelves.{first_shelved}
use Rattle.spill_store.proofs.shelf.Shelf.take_first.Goals as goal

pub invariant_of-self-2 : goal.invariant_of-self-2
invariant_of-self-2 c =
    let s = c.self.inside in
    let is = subst (λ order. IsShelved s.kept.items order s.free.items s.capacity (deque_capacity s.order) (vec_capacity s.kept) (vec_capacity s.free)) c.in_ok-place.ensures.items c.self.invariant in
    subst (λ free. IsShelved s.kept.items c.pop_front.new.self.items free s.capacity (deque_capacity c.pop_front.new.self) (vec_capacity s.kept) (vec_capacity c.push.new.self)) (sym c.in-Ok.ensures.items)
    (first_shelved s.kept.items c.pop_front.new.self.items s.free.items c.in_ok-place.place s.capacity (deque_capacity s.order) (vec_capacity s.kept) (vec_capacity s.free) (deque_capacity c.pop_front.new.self) (vec_capacity c.push.new.self) is (omega (arith, c.pop_front.ensures.capacity)) c.in-Ok.ensures.capacity)
