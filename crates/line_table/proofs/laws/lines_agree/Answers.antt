use Rattle.line_table.proofs.Lined as proved
use Rattle.line_table.proofs.laws.lines_agree.Goals as goal

pub returns : goal.returns
returns c = proved.lines_agree
