use Rattle.line_table.proofs.Lined as proved
use Rattle.line_table.proofs.laws.bits_meet_modulo.Goals as goal

pub returns : goal.returns
returns c = proved.bits_meet_modulo
