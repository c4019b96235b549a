use Rattle.abort_cascade.proofs.Union.{is_union, is_least}
use Rattle.abort_cascade.proofs.closing.closed_sets.Goals as goal

pub returns : goal.returns
returns c = record { union = is_union; least = is_least }
