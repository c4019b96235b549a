use Rattle.std.proofs.Common.{ap, sym, subst}
use Rattle.std.specs.Prelude.{IfSome}
use Rattle.rv_core.specs.declared.state.Core.{Core}
use Rattle.run_journal.specs.declared.end.End.TheVariants as ends
use Rattle.event_basis.specs.event_def.End.{HasEnd}
use Rattle.event_basis.specs.spec_state.Least.{HasName}
use Rattle.event_basis.specs.spec_state.Tasks.{trap_cause}
use Rattle.event_basis.proofs.Proved.{read_trap_ends}
use Rattle.event_prelude.proofs.ending.trap_end.Goals as goal

pub returns : goal.returns
returns g c =
    let task = c.task-task.result.now in
    let named = subst (λ o. IfSome o (λ t. HasName c.args.state.now.view t.creator c.least_name-name.result)) c.task-task.ensures c.least_name-name.ensures in
    subst (λ (core : Core). HasEnd c.args.state.now.view (ends.Trap c.least_name-name.result c.in-Trapped.cause core.pc)) (sym c.core.ensures)
    (read_trap_ends g.N.Naming.image c.args.state.now.view c.args.id c.in-Trapped.cause task c.least_name-name.result c.requires.sound
    c.requires.few c.requires.least c.task-task.ensures (sym (ap trap_cause c.in-Trapped.is)) named)
