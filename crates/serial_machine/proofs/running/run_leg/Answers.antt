use Rattle.std.proofs.Common.{ℕ, subst, arith}
use Rattle.rv_core.specs.Legs.{IsLeg}
use Rattle.serial_machine.proofs.Runs.{leg-leads, leg-can_count}
use Rattle.serial_machine.proofs.running.run_leg.Goals as goal

pub obey-requires-clause-used : goal.obey-requires-clause-used
obey-requires-clause-used c =
    leg-can_count c.args.image.now c.data_size-size.result c.args.budget 1024 _ _ _ _ c.run_plain_within-leg.ensures.leg (omega arith)

pub returns-clause-leads : goal.returns-clause-leads
returns-clause-leads c =
    let leg = c.run_plain_within-leg.result in
    let IsSized : ℕ → Type 0 = λ size. IsLeg c.args.image.now size c.args.budget 1024 c.task.inside.core leg.to leg.steps leg.stop in
    rw (← c.task.view_is) (leg-leads c.args.image.now c.args.budget c.args.ctx.now 1024 _ leg.to leg.steps leg.stop c.in_ok-flow.flow _ (omega arith) (subst IsSized c.data_size-size.ensures c.run_plain_within-leg.ensures.leg) (c.run_plain_within-leg.ensures.used).0 (c.run_plain_within-leg.ensures.used).1 c.in_ok-flow.ensures.leads)
