use Rattle.event_prelude.proofs.Below.event_basis.Proved.{conflicts_leave_taker}
use Rattle.event_step.proofs.Accessing.{conflicts_taken}
use Rattle.event_step.proofs.accesses.clear.Goals as goal

pub returns-clause-conflicts : goal.returns-clause-conflicts
returns-clause-conflicts g c tile core task takes =
    conflicts_taken g.N.Naming.image _ _ _ c.args.id.0 c.args.line c.args.offset c.abort_conflicts.result c.args.write
    task c.requires.sound takes.runs.on.there c.requires.line c.abort_conflicts.ensures.aborts
    c.abort_conflicts.ensures.effect

pub returns-clause-stays : goal.returns-clause-stays
returns-clause-stays g c tile core task takes =
    conflicts_leave_taker g.N.Naming.image _ tile core c.args.id.0 c.args.leg.now task c.args.offset
    c.args.write c.abort_conflicts.result _
    c.requires.sound takes (returns-clause-conflicts g c tile core task takes).0
