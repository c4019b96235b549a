use Rattle.std.proofs.Common.{subst, sym}
use Rattle.std.specs.Prelude.{None}
use Rattle.script_text.specs.step_script.declared.asked.Asked.{Asked}
use Rattle.script_text.specs.step_script.Asking.{asks_of}
use Rattle.watch_text.specs.Moments.{IsAbout, task_of}
use Rattle.watch_text.proofs.about.about_of.Goals as goal

pub returns-in-Legless-clause-task : goal.returns-in-Legless-clause-task
returns-in-Legless-clause-task g c =
    subst
    (λ (asked : Asked). IsAbout {N = g.row.N.Denot} c.args.state.now.view (asks_of asked c.args.leg.now)
    (task_of record { task = c.about_legless.result; request = None }))
    (sym c.in-Legless.is) (c.about_legless.ensures.task c.args.leg.now)
