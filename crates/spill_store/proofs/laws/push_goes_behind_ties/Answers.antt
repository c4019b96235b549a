use Rattle.spill_store.proofs.Pushed.{behind_ties}
use Rattle.spill_store.proofs.laws.push_goes_behind_ties.Goals as goal

pub returns : goal.returns
returns c = behind_ties
