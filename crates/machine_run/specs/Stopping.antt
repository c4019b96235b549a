-- Runs that met their commit limit and are continued later.
use Rattle.std.specs.Prelude.{◌≡◌, ◌<◌, ℕ, List, length, Some}
use Rattle.guest_image.specs.ImageValue.{ImageValue}
use Rattle.run_journal.specs.declared.end.End.TheVariants as ends
use Rattle.outcome_law.specs.spec_state.declared.pending.Pending.{Pending}
use Rattle.outcome_law.specs.spec_state.Pendings.{RunLeaves}
use Rattle.machine_run.specs.declared.left.Ran.{Ran}

-- the run met its commit limit, and these tasks are pending after it
pub record IsStoppedWith (image : ImageValue) (budget : ℕ) (ran : Ran) (pendings : List Pending) : Type 0 where
  pub end_is : ran.end ≡ Some ends.Limit
  pub left : RunLeaves image budget ran.closed.journal ran.closed.memory ran.closed.output pendings
  pub some : 0 < length pendings
