use Rattle.spec_law.proofs.Telling.{modulo_pulls_by_bits}
use Rattle.spec_law.proofs.filters.modulo_pulls_by_bits.Goals as goal

pub returns : goal.returns
returns c = modulo_pulls_by_bits
