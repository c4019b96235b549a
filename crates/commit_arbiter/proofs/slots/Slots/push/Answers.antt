use Rattle.std.proofs.Common.{◌++◌, ◌∷◌, [], set, vec_capacity, sym, ap, subst, ◌∙◌, arith}
use Rattle.commit_arbiter.specs.Slots.{in_slots, IsSlotted}
use Rattle.commit_arbiter.proofs.InSlots.{slotted_pushed, candidates_pushed}
use Rattle.commit_arbiter.proofs.slots.Slots.push.Goals as goal

pub invariant_of-self : goal.invariant_of-self
invariant_of-self c =
    let s = c.self.inside in
    let is = subst (λ free. IsSlotted s.table.items s.order.items free (vec_capacity s.order) (vec_capacity s.free)) c.in-Some.ensures.items c.self.invariant in
    subst (λ order. IsSlotted (set s.table.items c.in-Some.slot c.put_candidate.new.candidate) order c.pop.new.self.items (vec_capacity c.push.new.self) (vec_capacity c.pop.new.self)) (sym c.in-Ok.ensures.items)
    (slotted_pushed s.table.items s.order.items c.pop.new.self.items c.in-Some.slot (vec_capacity s.order) (vec_capacity s.free) is c.put_candidate.new.candidate (vec_capacity c.push.new.self) (vec_capacity c.pop.new.self) c.in-Ok.ensures.capacity (omega (arith, c.pop.ensures.capacity)))

pub returns-clause-candidates : goal.returns-clause-candidates
returns-clause-candidates c =
    let s = c.self.inside in
    let is = subst (λ free. IsSlotted s.table.items s.order.items free (vec_capacity s.order) (vec_capacity s.free)) c.in-Some.ensures.items c.self.invariant in
    ap (in_slots (set s.table.items c.in-Some.slot c.put_candidate.new.candidate)) c.in-Ok.ensures.items
    ∙ candidates_pushed s.table.items s.order.items c.pop.new.self.items c.in-Some.slot (vec_capacity s.order) (vec_capacity s.free) is c.put_candidate.new.candidate
    ∙ ap (λ v. v.candidates ++ c.put_candidate.new.candidate ∷ []) c.self.view_is
    ∙ ap (λ e. c.args.self.now.candidates ++ e ∷ []) c.put_candidate.ensures
