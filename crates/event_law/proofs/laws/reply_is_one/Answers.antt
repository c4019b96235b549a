use Rattle.event_law.proofs.Replies.{reply_is_one}
use Rattle.event_law.proofs.laws.reply_is_one.Goals as goal

pub returns : goal.returns
returns g c = reply_is_one g.row.N.Denot
