use Rattle.std.proofs.Common.{rules, refl, ◌≡◌, ◌∙◌, ◌++◌, ◌∷◌, [], true, ap, subst, sym, length, set, ◌+◌, ◌*◌, ◌^◌}
use Rattle.std.proofs.Common.{vec_capacity, arith}
use Rattle.pending_list.specs.Pending.{AllBefore}
use Rattle.pending_list.specs.Slots.{present}
use Rattle.pending_list.proofs.Presents.{present-append}
use Rattle.pending_list.proofs.Indexes.{pushed}
use Rattle.pending_list.proofs.list.PendingList.push.Goals as goal

pub invariant_of-self : goal.invariant_of-self
invariant_of-self c =
    let s = c.self.inside in
    let here : c.len-place.result ≡ length s.slots.items = search rules in
    let ranked : c.set.new.self ≡ set s.ranks (length s.slots.items) (c.args.task.ts * 2 ^ 32 + length s.slots.items) =
    c.set.ensures ∙ ap (set s.ranks c.len-place.result) c.rank.ensures
    ∙ ap (λ k. set s.ranks k (c.args.task.ts * 2 ^ 32 + k)) here
    in
    let spare = ap (λ v. v.spare) c.self.view_is in
    pushed s.slots.items c.push.new.self.items s.ranks c.set.new.self (vec_capacity s.slots)
    (vec_capacity c.push.new.self)
    (record { task = c.args.task; here = true }) c.self.invariant (omega arith) refl (search rules)
    (subst (λ v. AllBefore c.args.task.name v.tasks) (sym c.self.view_is) c.requires.later)
    (search rules) ranked (omega (arith, c.push.ensures.capacity))

pub returns-clause-tasks : goal.returns-clause-tasks
returns-clause-tasks c =
    let s = c.self.inside in
    let joined : c.push.new.self.items ≡ s.slots.items ++ record { task = c.args.task; here = true } ∷ [] =
    search rules in
    ap present joined ∙ present-append s.slots.items (record { task = c.args.task; here = true } ∷ [])
    ∙ ap (λ v. v.tasks ++ c.args.task ∷ []) c.self.view_is
