use Rattle.serial_machine.proofs.Refused.{may-why}
use Rattle.serial_machine.proofs.whole_run.take_one.Goals as goal

pub stopped_by-requires : goal.stopped_by-requires
stopped_by-requires c =
    let may = c.in-Some.ensures.may in
    may-why c.args.image.now c.args.serial.now.budget c.args.serial.now.state c.in-Some.name c.in-Err.fault may.bag may.outer may.task may.may c.in-Err.ensures.refused
