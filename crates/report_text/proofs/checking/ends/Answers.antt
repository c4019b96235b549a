use Rattle.std.proofs.Common.{◌<◌, ◌∙◌, sym, subst, rules, length}
use Rattle.run_law.specs.serial_machine.Turn.{RefusesTurn}
use Rattle.run_law.specs.serial_machine.Run.{IsEnd}
use Rattle.report_text.proofs.Replays.{trap-none, trap-why, match-both, none-other}
use Rattle.report_text.proofs.checking.ends.Goals as goal

pub returns-in-Ok-clause-verdict : goal.returns-in-Ok-clause-verdict
returns-in-Ok-clause-verdict c = λ journal len is.
    let trap = subst (λ e. IsEnd c.args.image.now c.args.serial.now.budget c.args.commits journal c.args.serial.now.state e) c.in-Trap.is is in
    none-other _ (sym (trap-none c.args.image.now c.args.serial.now.budget c.args.serial.now.state c.in-Trap.name c.in-Trap.cause c.in-Trap.pc trap.1) ∙ c.in-Ok.ensures.ok)

pub returns-else-is_memory-clause-verdict : goal.returns-else-is_memory-clause-verdict
returns-else-is_memory-clause-verdict c = λ journal len. match-both c.is_trap.result c.is_trap.ensures
    (λ same. subst (λ e. IsEnd c.args.image.now c.args.serial.now.budget c.args.commits journal c.args.serial.now.state e) (sym c.in-Trap.is)
    (let lt : length journal < c.args.commits = search (rules, len) in
    (lt, subst (λ f. RefusesTurn c.args.image.now c.args.serial.now.budget c.args.serial.now.state c.in-Trap.name f) same c.in-Err.ensures.refused)))
    (λ other is.
    let trap = subst (λ e. IsEnd c.args.image.now c.args.serial.now.budget c.args.commits journal c.args.serial.now.state e) c.in-Trap.is is in
    other (trap-why c.args.image.now c.args.serial.now.budget c.args.serial.now.state c.in-Trap.name c.in-Trap.cause c.in-Trap.pc c.in-Err.fault trap.1 c.in-Err.ensures.refused c.if-is_memory.ensures))
