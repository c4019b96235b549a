use Rattle.abort_cascade.proofs.Proved.{Spreads-none}
use Rattle.part_tests.proofs.cascades.ApartSpreader.spread.Goals as goal

pub returns-clause-spreads : goal.returns-clause-spreads
returns-clause-spreads c = Spreads-none _ _ _
