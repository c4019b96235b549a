use Rattle.std.proofs.Common.{rules, ◌≡◌, ℕ, Bool, true, is_some, Some, sym, ap, subst, ◌∙◌, arith}
use Rattle.std.specs.Prelude.{IfSome}
use Rattle.commit_arbiter.specs.Indexed.{closed_in}
use Rattle.spec_state.specs.StateValue.{StateValue}
use Rattle.spec_state.specs.View.{View, task_at}
use Rattle.spec_state.specs.Queries.{Conflicts}
use Rattle.spec_state.proofs.Alone.{alone_if}
use Rattle.spec_state.proofs.state.State.is_alone.Goals as goal

pub returns-then-closed_count-eq1 : goal.returns-then-closed_count-eq1
returns-then-closed_count-eq1 g c is =
    let same = ap (λ (v : StateValue). v.view) c.self.view_is in
    let there = ap (λ (v : View). task_at v c.args.task.0) same ∙ c.task.ensures in
    let one : closed_in c.self.inside.index.candidates
    ≡ 1 = omega (arith, c.closed_count.ensures, c.if-closed_count-eq1.true) in
    let some : is_some c.task.result.now.key.tb ≡ true = search (rules, is) in
    subst (λ (v : View). IfSome (task_at v c.args.task.0) (λ t. (line : ℕ) (write : Bool) (k : ℕ) → Conflicts v t line write k → ⊥)) same
    (alone_if _ _ _ _ _ c.self.invariant.5 one c.args.task.0 c.task.result.now there some)
