use Rattle.std.proofs.Common.{◌-◌, length, take, vec_capacity, sym, ap, subst, ◌∙◌, arith}
use Rattle.commit_arbiter.specs.Slots.{IsSlotted}
use Rattle.commit_arbiter.proofs.InSlots.{slotted_popped, candidates_popped}
use Rattle.commit_arbiter.proofs.slots.Slots.pop.Goals as goal

pub invariant_of-self : goal.invariant_of-self
invariant_of-self c =
    let s = c.self.inside in
    let is = subst (λ order. IsSlotted s.table.items order s.free.items (vec_capacity s.order) (vec_capacity s.free)) c.in-Some.ensures.items c.self.invariant in
    subst (λ free. IsSlotted s.table.items c.pop.new.self.items free (vec_capacity c.pop.new.self) (vec_capacity c.push.new.self)) (sym c.in-Ok.ensures.items)
    (slotted_popped s.table.items c.pop.new.self.items s.free.items c.in-Some.slot (vec_capacity s.order) (vec_capacity s.free) is (vec_capacity c.pop.new.self) (vec_capacity c.push.new.self) (omega (arith, c.pop.ensures.capacity)) c.in-Ok.ensures.capacity)

pub returns-clause-candidates : goal.returns-clause-candidates
returns-clause-candidates c =
    let s = c.self.inside in
    candidates_popped s.table.items s.order.items c.pop.new.self.items c.in-Some.slot c.in-Some.ensures.items
    ∙ ap (λ v. take (length v.candidates - 1) v.candidates) c.self.view_is
