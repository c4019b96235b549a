use Rattle.line_table.specs.SignatureLaws as laws
use Rattle.line_table.proofs.signature.signatures_agree.Goals as goal

pub returns : goal.returns
returns c = laws.signatures_agree
