use Rattle.std.proofs.Common.{rules}
use Rattle.line_table.proofs.Bits.{bit-with}
use Rattle.line_table.proofs.row.BitRow.set.Goals as goal

pub returns : goal.returns
returns c = λ other. bit-with c.args.self.now.words c.args.line other (search rules)
