use Rattle.std.proofs.Common.{subst}
use Rattle.std.specs.Prelude.{IfSome, IsNone}
use Rattle.conflict_book.specs.spec_state.Least.{IsLeast}
use Rattle.conflict_book.specs.event_def.End.{IsOver}
use Rattle.step_script.proofs.asking.least_of.Goals as goal

pub returns-clause-some : goal.returns-clause-some
returns-clause-some g c =
    subst (λ view. IfSome c.least_going.result (λ w. (IsOver view → ⊥) × IsLeast view w)) c.state.ensures.view
    c.least_going.ensures.some

pub returns-clause-none : goal.returns-clause-none
returns-clause-none g c =
    subst (λ view. IsNone c.least_going.result → IsOver view) c.state.ensures.view c.least_going.ensures.none
