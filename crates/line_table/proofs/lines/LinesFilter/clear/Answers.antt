use Rattle.std.proofs.Common.{[], sym, subst}
use Rattle.line_table.specs.Lines.{HasLines}
use Rattle.line_table.proofs.Shared.{none_of}
use Rattle.line_table.proofs.lines.LinesFilter.clear.Goals as goal

pub returns-clause-notes : goal.returns-clause-notes
returns-clause-notes c =
    subst (λ lines. HasLines lines []) (sym c.of.ensures) (none_of c.args.self.now.kind c.args.self.now.size)
