use Rattle.std.proofs.Common.{◌≢◌, sym, ap, subst, ◌∙◌}
use Rattle.std.proofs.Common.{Greater}
use Rattle.fractal_vt.specs.Sorted.{IsInOrder}
use Rattle.fractal_vt.proofs.Proved.{AllPairs-tail}
use Rattle.spill_store.specs.SpilledTasks.{Spilled, by_key, TakesLeast}
use Rattle.spill_store.proofs.Pushed.{takes_first}
use Rattle.spill_store.proofs.block.Block.take_least.Goals as goal

pub invariant_of-self : goal.invariant_of-self
invariant_of-self c = subst (λ v. IsInOrder by_key v.tasks) (sym c.in_err-taken.ensures.empty) c.self.invariant

pub invariant_of-self-2 : goal.invariant_of-self-2
invariant_of-self-2 c =
    let task : Spilled = record { desc = c.in_ok-taken.taken.0; domain = c.in_ok-taken.taken.1 } in
    AllPairs-tail (λ a b. by_key a b ≢ Greater) task c.take_first.new.self.tasks (subst (IsInOrder by_key) c.in_ok-taken.ensures.first c.self.invariant)

pub returns-clause-least : goal.returns-clause-least
returns-clause-least c =
    let new = c.take_first.new.self.tasks in
    let task : Spilled = record { desc = c.in_ok-taken.taken.0; domain = c.in_ok-taken.taken.1 } in
    let was = c.in_ok-taken.ensures.first in
    subst (λ old. TakesLeast old new task) (sym was ∙ ap (λ v. v.tasks) c.self.view_is)
    (takes_first task new (subst (IsInOrder by_key) was c.self.invariant))
