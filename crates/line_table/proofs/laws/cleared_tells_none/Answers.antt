use Rattle.line_table.proofs.Lined as proved
use Rattle.line_table.proofs.laws.cleared_tells_none.Goals as goal

pub returns : goal.returns
returns c = proved.cleared_tells_none
