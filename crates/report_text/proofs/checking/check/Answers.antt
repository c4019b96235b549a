use Rattle.run_law.proofs.Proved.{lawful}
use Rattle.report_text.proofs.checking.check.Goals as goal

pub returns-clause-laws : goal.returns-clause-laws
returns-clause-laws c =
    λ yes accepted. lawful c.args.image.now c.args.budget c.args.report.now.journal accepted.state accepted.run.run
