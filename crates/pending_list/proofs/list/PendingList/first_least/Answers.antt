use Rattle.std.proofs.Common.{◌∙◌, sym, ap, subst, Some, vec_capacity, arith}
use Rattle.std.proofs.lemmas.List.{get_or_read}
use Rattle.pending_list.specs.Pending.{first_least}
use Rattle.pending_list.specs.Slots.{vacant}
use Rattle.pending_list.proofs.Firsts.{HasFirst, first_of_least}
use Rattle.pending_list.proofs.list.PendingList.first_least.Goals as goal

pub returns-then-place-len : goal.returns-then-place-len
returns-then-place-len c =
    let s = c.self.inside in
    let found = subst (HasFirst s.slots.items) (sym c.slot_of-place.ensures) (first_of_least s.slots.items s.ranks
    (vec_capacity s.slots) c.least.result c.self.invariant c.least.ensures) in
    ap (λ slot. Some slot.task) (get_or_read s.slots.items _ c.index.result.now (omega arith) c.index.ensures vacant)
    ∙ sym (found.some (omega arith))
    ∙ ap (λ v. first_least v.tasks) c.self.view_is

pub returns : goal.returns
returns c =
    let s = c.self.inside in
    let found = subst (HasFirst s.slots.items) (sym c.slot_of-place.ensures) (first_of_least s.slots.items s.ranks
    (vec_capacity s.slots) c.least.result c.self.invariant c.least.ensures) in
    sym (found.none (omega arith)) ∙ ap (λ v. first_least v.tasks) c.self.view_is
