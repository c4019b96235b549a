use Rattle.task_law.proofs.Logging.{logged_run_is_turn}
use Rattle.task_law.proofs.logged.logged_run_is_turn.Goals as goal

pub returns : goal.returns
returns c = logged_run_is_turn
