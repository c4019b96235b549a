use Rattle.line_table.proofs.Lined as proved
use Rattle.line_table.proofs.laws.exact_tells_noted.Goals as goal

pub returns : goal.returns
returns c = proved.exact_tells_noted
