use Rattle.std.proofs.Common.{◌≡◌, ◌∙◌, length, sym, ap, subst}
use Rattle.serial_machine.specs.declared.running.RunEnd.{RunEnd}
use Rattle.serial_machine.specs.Legs.{FinishesRun, SubFits, end_of_task}
use Rattle.serial_machine.proofs.Kept.{EndHolds, task_run-size, task_run-sub_fits}
use Rattle.serial_machine.proofs.Turns.{after_instructions-task_at_start, finish-done, finish-trapped}
use Rattle.serial_machine.proofs.turning.run_done.Goals as goal

pub returns-in-Ok-Done-clause-done : goal.returns-in-Ok-Done-clause-done
returns-in-Ok-Done-clause-done c =
    let whole = after_instructions-task_at_start c.args.image.now c.args.budget c.args.ctx.now c.args.task.now.entry c.args.task.now.ts c.args.task.now.args c.args.memory.now c.replace.result c.progress_at_start-progress.result.task c.requires.ts c.replace.ensures.value (ap (λ p. p.task) c.progress_at_start-progress.ensures) in
    let After : RunEnd → Type 0 = λ e. FinishesRun (end_of_task c.args.image.now c.args.budget c.args.ctx.now c.progress_at_start-progress.result.task) e c.run.new.task.task in
    sym whole ∙ finish-done _ c.run.new.task.task (subst After c.in-Ok-Done.field-0-is c.in-Ok-Done.ensures.finishes)

pub returns-in-Ok-Done-clause-sub : goal.returns-in-Ok-Done-clause-sub
returns-in-Ok-Done-clause-sub c =
    subst (EndHolds (λ t. SubFits c.args.ctx.now.depth t.sub)) (returns-in-Ok-Done-clause-done c)
    (task_run-sub_fits c.args.image.now c.args.budget c.args.ctx.now c.args.task.now.entry c.args.task.now.args c.args.memory.now)

pub returns-in-Ok-Done-clause-size : goal.returns-in-Ok-Done-clause-size
returns-in-Ok-Done-clause-size c =
    subst (EndHolds (λ t. length t.memory ≡ length c.args.memory.now)) (returns-in-Ok-Done-clause-done c)
    (task_run-size c.args.image.now c.args.budget c.args.ctx.now c.args.task.now.entry c.args.task.now.args c.args.memory.now)

pub returns-in-Ok-Trapped-clause-refused : goal.returns-in-Ok-Trapped-clause-refused
returns-in-Ok-Trapped-clause-refused c =
    let whole = after_instructions-task_at_start c.args.image.now c.args.budget c.args.ctx.now c.args.task.now.entry c.args.task.now.ts c.args.task.now.args c.args.memory.now c.replace.result c.progress_at_start-progress.result.task c.requires.ts c.replace.ensures.value (ap (λ p. p.task) c.progress_at_start-progress.ensures) in
    let After : RunEnd → Type 0 = λ e. FinishesRun (end_of_task c.args.image.now c.args.budget c.args.ctx.now c.progress_at_start-progress.result.task) e c.run.new.task.task in
    sym whole
    ∙ finish-trapped _ c.in-Ok-Trapped.cause c.in-Ok-Trapped.pc c.run.new.task.task (subst After c.in-Ok-Trapped.field-0-is c.in-Ok-Trapped.ensures.finishes)
