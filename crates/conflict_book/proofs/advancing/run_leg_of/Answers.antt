use Rattle.std.proofs.Common.{ap, subst, sym, ◌∙◌, ◌≤◌}
use Rattle.event_step.specs.spec_state.declared.settings.Settings.{Settings}
use Rattle.conflict_book.proofs.Leading.{runs_within}
use Rattle.conflict_book.proofs.advancing.run_leg_of.Goals as goal

pub run_again-requires-clause-budget : goal.run_again-requires-clause-budget
run_again-requires-clause-budget g c =
    ap (λ (s : Settings). s.budget) c.settings-settings.ensures ∙ c.has_limits.ensures.budget

pub run_again-requires-clause-used : goal.run_again-requires-clause-used
run_again-requires-clause-used g c =
    subst (λ (s : Settings). c.task.result.now.core.used ≤ s.budget) (sym c.settings-settings.ensures)
    (runs_within g.N.Naming.image c.args.state.now.view c.args.id c.requires.sound c.requires.least c.task.result.now c.task.ensures)
