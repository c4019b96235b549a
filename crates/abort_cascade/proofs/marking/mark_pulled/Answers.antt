use Rattle.std.proofs.Common.{arith, ◌∙◌, sym}
use Rattle.abort_cascade.proofs.Rounds.{RoundOf-none, RoundOf-skip, RoundOf-mark}
use Rattle.abort_cascade.proofs.marking.mark_pulled.Goals as goal
use Rattle.abort_cascade.proofs.marking.mark_pulled.Goals.{then-not-marks-b+then-pulls, else-not-marks-b}
use Rattle.abort_cascade.proofs.marking.mark_pulled.Goals.{else-not-marks-b-via-then-not-marks-b+else-pulls}
use Rattle.abort_cascade.proofs.marking.mark_pulled.Goals.{else-not-marks-b-via-else-not-marks-b}

pub loop-b-init : goal.loop-b-init
loop-b-init g c = RoundOf-none _ _ _ _

pub loop-b-preserved : goal.loop-b-preserved
loop-b-preserved g c =
    elim c.if-not-marks-b.branch [
      | then-not-marks-b+then-pulls w ↦
          rw (w.marks-is, w.grown-is)
          (RoundOf-mark _ _ _ _ _ _ _ (omega arith) (omega arith) (omega arith) c.requires.marked (sym w.pulls.ensures ∙ w.if-pulls.true) w.if-not-marks-b.true c.loop-b.invariant)
      | else-not-marks-b w ↦
          rw (w.marks-is, w.grown-is)
          (elim w.else-not-marks-b.branch [
            | else-not-marks-b-via-then-not-marks-b+else-pulls w' ↦
                RoundOf-skip _ _ _ _ _ _ _ (λ pulled. absurd (cc (w'.pulls.ensures, w'.if-pulls.false, pulled))) c.loop-b.invariant
            | else-not-marks-b-via-else-not-marks-b w' ↦ RoundOf-skip _ _ _ _ _ _ _ (λ pulled. w'.if-not-marks-b.false) c.loop-b.invariant
          ])
    ]
