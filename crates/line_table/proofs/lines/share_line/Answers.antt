use Rattle.std.proofs.Common.{arith}
use Rattle.line_table.proofs.Shared.{none_meet}
use Rattle.line_table.proofs.lines.share_line.Goals as goal

pub returns : goal.returns
returns c = (
  λ yes. absurd (cc yes),
  λ meet. absurd (none_meet c.args.earlier.now c.args.later.now
      (λ line low. c.loop-number.invariant line (omega arith)) meet),
)
