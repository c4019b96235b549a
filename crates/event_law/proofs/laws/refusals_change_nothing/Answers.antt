use Rattle.event_law.proofs.Replies.{refusals_change_nothing}
use Rattle.event_law.proofs.laws.refusals_change_nothing.Goals as goal

pub returns : goal.returns
returns g c = refusals_change_nothing g.row.N.Denot
