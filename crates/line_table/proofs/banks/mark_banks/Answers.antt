use Rattle.std.proofs.Common.{subst}
use Rattle.line_table.specs.Signature.{IsSignature}
use Rattle.line_table.proofs.Marked.{four_more}
use Rattle.line_table.proofs.banks.mark_banks.Goals as goal

pub returns : goal.returns
returns c = λ notes is.
    subst (IsSignature _) (four_more notes _ _ _ _)
    (c.mark-4.ensures _ (c.mark-3.ensures _ (c.mark-2.ensures _ (c.mark.ensures notes is))))
