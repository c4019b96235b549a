use Rattle.std.proofs.Common.{◌∙◌, ◌&&◌, ◌||◌, ap, sym}
use Rattle.line_table.specs.Row.{same_bit}
use Rattle.line_table.specs.Signature.{wrote_of}
use Rattle.line_table.proofs.Signatures.{IsSignature-more}
use Rattle.line_table.proofs.signature.Signature.mark.Goals as goal

pub returns-then-write : goal.returns-then-write
returns-then-write c = λ notes.
    IsSignature-more _ _ c.args.line c.args.write notes c.set.ensures
    (λ other. c.set-then-write.ensures other ∙ ap (λ write. wrote_of c.args.self.now other || (write && same_bit c.args.line other)) (sym c.if-write.true))
