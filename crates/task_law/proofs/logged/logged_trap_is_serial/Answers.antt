use Rattle.task_law.proofs.Logging.{logged_trap_is_serial}
use Rattle.task_law.proofs.logged.logged_trap_is_serial.Goals as goal

pub returns : goal.returns
returns c = logged_trap_is_serial
