use Rattle.line_table.proofs.Signatures.{meets_of-is}
use Rattle.line_table.proofs.signature.SignatureFilter.meets.Goals as goal

pub returns-clause-answer : goal.returns-clause-answer
returns-clause-answer c = meets_of-is _ _ _ c.meets.ensures
