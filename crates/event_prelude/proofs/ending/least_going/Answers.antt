use Rattle.std.proofs.Common.{Some, None, ap}
use Rattle.std.specs.declared.option.Option.{Option}
use Rattle.std.specs.Prelude.{IfSome, is_some}
use Rattle.event_basis.specs.spec_state.declared.task.Where.{Where}
use Rattle.event_basis.specs.spec_state.View.{View}
use Rattle.event_basis.specs.spec_state.Least.{IsLeast}
use Rattle.event_basis.specs.event_def.End.{IsOver}
use Rattle.event_prelude.proofs.ending.least_going.Goals as goal

-- what is read is the least task of a run that goes on
goes_on : (view : View) (least : Option Where) → (IsOver view → ⊥) → IfSome least (IsLeast view)
    → IfSome least (λ w. (IsOver view → ⊥) × IsLeast view w)
goes_on view None going is = tt
goes_on view (Some w) going is = (going, is)

pub returns-in-None-clause-some : goal.returns-in-None-clause-some
returns-in-None-clause-some g c =
    goes_on c.args.state.now.view c.least-least.result (c.end_with.ensures.none (ap is_some c.in-None.is))
    c.least-least.ensures.some
