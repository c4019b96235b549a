use Rattle.line_table.proofs.Lined as proved
use Rattle.line_table.proofs.laws.noted_is_told.Goals as goal

pub returns : goal.returns
returns c = proved.noted_is_told
