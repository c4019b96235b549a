use Rattle.event_basis.proofs.Cores.{core_leaves_idle}
use Rattle.event_basis.proofs.laws.idle_stays.Goals as goal

pub returns : goal.returns
returns c = core_leaves_idle
