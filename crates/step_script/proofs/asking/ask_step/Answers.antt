use Rattle.std.proofs.Common.{rules}
use Rattle.step_script.proofs.Attempts.{step_asks}
use Rattle.step_script.proofs.asking.ask_step.Goals as goal

pub returns-then-run_at-clause-asks : goal.returns-then-run_at-clause-asks
returns-then-run_at-clause-asks g c =
    step_asks g.row.N.Denot g.N.Naming.image c.args.tile c.args.core _ c.run_at.new.leg (search rules)
    (c.run_at.ensures.some c.if-run_at.true)
