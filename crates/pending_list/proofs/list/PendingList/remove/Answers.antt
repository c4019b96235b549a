use Rattle.std.proofs.Common.{rules, refl, ◌∙◌, false, ap, sym, set, vec_capacity, arith}
use Rattle.std.proofs.lemmas.List.{get_or_read}
use Rattle.pending_list.specs.declared.slot.Slot.{Slot}
use Rattle.pending_list.specs.Pending.{without_name}
use Rattle.pending_list.specs.Slots.{vacant, IsPlaceOfName, IsNowhere}
use Rattle.pending_list.proofs.Presents.{leaves_none, leaves_there}
use Rattle.pending_list.proofs.Indexes.{left_slot, trimmed_same}
use Rattle.pending_list.proofs.list.PendingList.remove.Goals as goal

pub invariant_of-self : goal.invariant_of-self
invariant_of-self c =
    let s = c.self.inside in
    let slots = s.slots.items in
    let at = c.in-Some.place in
    let there : IsPlaceOfName c.args.name slots at = search rules in
    let read = get_or_read slots at c.index_mut.result.now there.within c.index_mut.ensures.value vacant in
    let left : Slot = record { task = c.index_mut.result.now.task; here = false } in
    left_slot c.args.name slots (set slots at left) c.trim.new.slots.items s.ranks c.set.new.self
    (vec_capacity s.slots) (vec_capacity c.trim.new.slots) at left
    c.self.invariant there refl (ap (λ slot. slot.task) read) refl c.trim.ensures.trimmed c.set.ensures (omega
    (arith, c.trim.ensures.capacity))

pub returns-in-Some-clause-tasks : goal.returns-in-Some-clause-tasks
returns-in-Some-clause-tasks c =
    let slots = c.self.inside.slots.items in
    let at = c.in-Some.place in
    let there : IsPlaceOfName c.args.name slots at = search rules in
    let left : Slot = record { task = c.index_mut.result.now.task; here = false } in
    trimmed_same (set slots at left) c.trim.new.slots.items c.trim.ensures.trimmed
    ∙ leaves_there c.args.name slots at left there refl
    ∙ ap (λ v. without_name c.args.name v.tasks) c.self.view_is

pub returns-in_default-clause-tasks : goal.returns-in_default-clause-tasks
returns-in_default-clause-tasks c =
    let slots = c.self.inside.slots.items in
    let missing : IsNowhere c.args.name slots = search rules in
    ap (λ v. v.tasks) (sym c.self.view_is) ∙ leaves_none c.args.name slots missing
    ∙ ap (λ v. without_name c.args.name v.tasks) c.self.view_is
