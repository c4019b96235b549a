use Rattle.std.proofs.Common.{rules, ◌≡◌, Some, sym, subst}
use Rattle.std.specs.Option.{IfSome}
use Rattle.fractal_vt.specs.Sorted.{IsInOrder}
use Rattle.spill_store.specs.SpilledTasks.{by_key, first_key, IsLeastKey}
use Rattle.spill_store.proofs.Pushed.{key_of_first}
use Rattle.spill_store.proofs.block.Block.front_key.Goals as goal

pub returns-clause-least : goal.returns-clause-least
returns-clause-least c =
    let tasks = c.args.self.now.tasks in
    let first : Some c.key.result.now ≡ first_key tasks = search rules in
    let order = subst (λ v. IsInOrder by_key v.tasks) c.self.view_is c.self.invariant in
    subst (λ key. IfSome key (IsLeastKey tasks)) (sym first) (key_of_first tasks order)
