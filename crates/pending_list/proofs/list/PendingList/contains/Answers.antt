use Rattle.std.proofs.Common.{◌∙◌}
use Rattle.pending_list.proofs.Presents.{any_found}
use Rattle.pending_list.proofs.list.PendingList.contains.Goals as goal

pub returns : goal.returns
returns c = c.is_some.ensures ∙ any_found c.args.name c.args.self.now.tasks c.find.result c.find.ensures
