use Rattle.serial_machine.proofs.Runs.{can_perform}
use Rattle.serial_machine.proofs.running.obey.Goals as goal

pub perform-requires : goal.perform-requires
perform-requires c =
    let asked = c.request_now-request in
    can_perform c.args.ctx.now c.args.task.now.task c.args.stop.now asked.result asked.ensures.request c.requires.used
    c.requires.inside asked.ensures.data asked.ensures.limits
