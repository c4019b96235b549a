use Rattle.std.proofs.Common.{arith}
use Rattle.abort_cascade.proofs.Rounds.{PassTo-none, PassTo-skip, PassTo-spread}
use Rattle.abort_cascade.proofs.marking.pass.Goals as goal
use Rattle.abort_cascade.proofs.marking.pass.Goals.{then-marks-a, else-marks-a}

pub loop-a-init : goal.loop-a-init
loop-a-init g c = PassTo-none _ _ _

pub loop-a-preserved : goal.loop-a-preserved
loop-a-preserved g c =
    elim c.if-marks-a.branch [
      | then-marks-a w ↦
          rw (w.marks-is, w.grown-is)
          (PassTo-spread _ _ _ _ _ _ _ _ w.mark_pulled-grown.ensures.spreads (λ b below pulled. w.mark_pulled-grown.ensures.all b (omega (arith, below)) pulled) w.mark_pulled-grown.ensures.tells c.loop-a.invariant)
      | else-marks-a w ↦ rw (w.marks-is, w.grown-is) (PassTo-skip _ _ _ _ _ _ w.if-marks-a.false c.loop-a.invariant)
    ]
