use Rattle.std.proofs.Common.{◌≡◌, ◌++◌, ◌∷◌, [], length, set, vec_capacity, sym, ap, subst, ◌∙◌, arith}
use Rattle.std.specs.List.{insert}
use Rattle.std.specs.VecDeque.{deque_capacity}
use Rattle.std.proofs.lemmas.List.{nil_from_length}
use Rattle.spill_store.specs.Shelved.{IsShelved, at_places}
use Rattle.spill_store.proofs.Shelves.{place_inside, reused_tasks, reused_shelved, added_tasks, added_shelved}
use Rattle.spill_store.proofs.Shelves.{within_order}
use Rattle.spill_store.proofs.shelf.Shelf.insert.Goals as goal

pub index_mut-requires : goal.index_mut-requires
index_mut-requires c =
    let s = c.self.inside in
    let is = subst (λ free. IsShelved s.kept.items s.order.items free s.capacity (deque_capacity s.order) (vec_capacity s.kept) (vec_capacity s.free)) c.in-Some.ensures.items c.self.invariant in
    let inside = place_inside s.kept.items s.order.items c.pop.new.self.items c.in-Some.place s.capacity (deque_capacity s.order) (vec_capacity s.kept) (vec_capacity s.free) is in
    omega arith

pub invariant_of-self : goal.invariant_of-self
invariant_of-self c =
    let s = c.self.inside in
    let is = subst (λ free. IsShelved s.kept.items s.order.items free s.capacity (deque_capacity s.order) (vec_capacity s.kept) (vec_capacity s.free)) c.in-Some.ensures.items c.self.invariant in
    subst (λ order. IsShelved (set s.kept.items c.in-Some.place c.args.fresh) order c.pop.new.self.items s.capacity (deque_capacity c.insert.new.self) (vec_capacity s.kept) (vec_capacity c.pop.new.self)) (sym c.in-Ok.ensures.items)
    (reused_shelved s.kept.items s.order.items c.pop.new.self.items c.in-Some.place s.capacity (deque_capacity s.order) (vec_capacity s.kept) (vec_capacity s.free) is c.args.fresh c.args.at (deque_capacity c.insert.new.self) (vec_capacity c.pop.new.self)
    (within_order s.kept.items s.order.items c.args.self.now.tasks c.args.at (ap (λ v. v.tasks) c.self.view_is) c.requires.within) c.in-Ok.ensures.capacity (omega (arith, c.pop.ensures.capacity)))

pub returns-in-Ok-clause-tasks : goal.returns-in-Ok-clause-tasks
returns-in-Ok-clause-tasks c =
    let s = c.self.inside in
    let is = subst (λ free. IsShelved s.kept.items s.order.items free s.capacity (deque_capacity s.order) (vec_capacity s.kept) (vec_capacity s.free)) c.in-Some.ensures.items c.self.invariant in
    ap (at_places (set s.kept.items c.in-Some.place c.args.fresh)) c.in-Ok.ensures.items
    ∙ reused_tasks s.kept.items s.order.items c.pop.new.self.items c.in-Some.place s.capacity (deque_capacity s.order) (vec_capacity s.kept) (vec_capacity s.free) is c.args.fresh c.args.at
    ∙ ap (λ v. insert v.tasks c.args.at c.args.fresh) c.self.view_is

pub invariant_of-self-in-Ok-insert : goal.invariant_of-self-in-Ok-insert
invariant_of-self-in-Ok-insert c =
    let s = c.self.inside in
    let gone : s.free.items ≡ [] = nil_from_length s.free.items (let none = c.in-None.ensures.cases in omega arith) in
    let none : c.pop.new.self.items ≡ [] = nil_from_length c.pop.new.self.items (let none = c.in-None.ensures.cases in omega arith) in
    let is = subst (λ free. IsShelved s.kept.items s.order.items free s.capacity (deque_capacity s.order) (vec_capacity s.kept) (vec_capacity s.free)) gone c.self.invariant in
    let spare = c.requires.spare in
    let put : c.insert-in-None.new.self.items ≡ insert s.order.items c.args.at (length s.kept.items) = c.in-Ok-insert.ensures.items ∙ ap (insert s.order.items c.args.at) (let len = c.len-place.ensures in omega arith) in
    let fits = added_shelved s.kept.items s.order.items s.capacity (deque_capacity s.order) (vec_capacity s.kept) (vec_capacity s.free) is c.args.fresh c.args.at (deque_capacity c.insert-in-None.new.self) (vec_capacity c.push.new.self)
    (within_order s.kept.items s.order.items c.args.self.now.tasks c.args.at (ap (λ v. v.tasks) c.self.view_is) c.requires.within) (let view = ap (λ v. v.spare) c.self.view_is in omega arith) c.in-Ok-insert.ensures.capacity c.in-Ok-push.ensures.capacity in
    subst (λ kept. IsShelved kept c.insert-in-None.new.self.items c.pop.new.self.items s.capacity (deque_capacity c.insert-in-None.new.self) (vec_capacity c.push.new.self) (vec_capacity c.pop.new.self)) (sym c.in-Ok-push.ensures.items)
    (subst (λ order. IsShelved (s.kept.items ++ c.args.fresh ∷ []) order c.pop.new.self.items s.capacity (deque_capacity c.insert-in-None.new.self) (vec_capacity c.push.new.self) (vec_capacity c.pop.new.self)) (sym put)
    (subst (λ free. IsShelved (s.kept.items ++ c.args.fresh ∷ []) (insert s.order.items c.args.at (length s.kept.items)) free s.capacity (deque_capacity c.insert-in-None.new.self) (vec_capacity c.push.new.self) (vec_capacity c.pop.new.self)) (sym none)
    (subst (IsShelved (s.kept.items ++ c.args.fresh ∷ []) (insert s.order.items c.args.at (length s.kept.items)) [] s.capacity (deque_capacity c.insert-in-None.new.self) (vec_capacity c.push.new.self)) (sym c.pop.ensures.capacity) fits)))

pub returns-in-Ok-insert-clause-tasks : goal.returns-in-Ok-insert-clause-tasks
returns-in-Ok-insert-clause-tasks c =
    let s = c.self.inside in
    let gone : s.free.items ≡ [] = nil_from_length s.free.items (let none = c.in-None.ensures.cases in omega arith) in
    let is = subst (λ free. IsShelved s.kept.items s.order.items free s.capacity (deque_capacity s.order) (vec_capacity s.kept) (vec_capacity s.free)) gone c.self.invariant in
    let put : c.insert-in-None.new.self.items ≡ insert s.order.items c.args.at (length s.kept.items) = c.in-Ok-insert.ensures.items ∙ ap (insert s.order.items c.args.at) (let len = c.len-place.ensures in omega arith) in
    ap (λ kept. at_places kept c.insert-in-None.new.self.items) c.in-Ok-push.ensures.items
    ∙ ap (at_places (s.kept.items ++ c.args.fresh ∷ [])) put
    ∙ added_tasks s.kept.items s.order.items s.capacity (deque_capacity s.order) (vec_capacity s.kept) (vec_capacity s.free) is c.args.fresh c.args.at
    ∙ ap (λ v. insert v.tasks c.args.at c.args.fresh) c.self.view_is
