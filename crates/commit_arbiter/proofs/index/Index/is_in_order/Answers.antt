use Rattle.std.proofs.Common.{◌≢◌, subst}
use Rattle.std.specs.List.{AllPairs}
use Rattle.fractal_vt.specs.Sorted.{IsInOrder}
use Rattle.commit_arbiter.specs.Indexed.{candidate_cmp}
use Rattle.commit_arbiter.proofs.Ordered.{in_rising_order-in_order, ids_in_order}
use Rattle.commit_arbiter.proofs.index.Index.is_in_order.Goals as goal

pub returns-clause-order : goal.returns-clause-order
returns-clause-order c =
    subst (λ v. IsInOrder candidate_cmp v.candidates) c.self.view_is (in_rising_order-in_order c.self.inside.slots.candidates)

pub returns-clause-ids : goal.returns-clause-ids
returns-clause-ids c =
    subst (λ v. AllPairs (λ a b. a.id ≢ b.id) v.candidates) c.self.view_is (ids_in_order c.self.inside.slots.candidates c.self.invariant.0.ids)
