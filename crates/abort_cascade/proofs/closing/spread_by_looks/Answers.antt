use Rattle.std.proofs.Common.{arith, ◌∙◌, sym}
use Rattle.abort_cascade.proofs.Members.{marked_within, listed_below, SpreadsTo-none, SpreadsTo-skip, SpreadsTo-mark}
use Rattle.abort_cascade.proofs.closing.spread_by_looks.Goals as goal
use Rattle.abort_cascade.proofs.closing.spread_by_looks.Goals.{then-not-marks-b+then-pulls, else-not-marks-b}
use Rattle.abort_cascade.proofs.closing.spread_by_looks.Goals.{else-not-marks-b-via-then-not-marks-b+else-pulls}
use Rattle.abort_cascade.proofs.closing.spread_by_looks.Goals.{else-not-marks-b-via-else-not-marks-b}

pub loop-b-init : goal.loop-b-init
loop-b-init g c = SpreadsTo-none _ _ _ _ _ _ c.requires.listed

pub bounds-members-size : goal.bounds-members-size
bounds-members-size g c =
    omega (arith, listed_below c.loop-b.marks c.loop-b.members c.loop-b.size c.loop-b.b c.loop-b.invariant.listed (omega arith) c.if-not-marks-b.true)

pub loop-b-preserved : goal.loop-b-preserved
loop-b-preserved g c =
    elim c.if-not-marks-b.branch [
      | then-not-marks-b+then-pulls w ↦
          rw (w.marks-is, w.members-is, w.size-is)
          (SpreadsTo-mark _ _ _ _ _ _ _ _ _ _ (omega (arith, marked_within c.args.marks.now c.args.node c.requires.marked)) (omega arith) (omega arith)
          (omega (arith, listed_below c.loop-b.marks c.loop-b.members c.loop-b.size c.loop-b.b c.loop-b.invariant.listed (omega arith) w.if-not-marks-b.true))
          c.requires.marked (sym w.pulls.ensures ∙ w.if-pulls.true) w.if-not-marks-b.true c.loop-b.invariant)
      | else-not-marks-b w ↦
          rw (w.marks-is, w.members-is, w.size-is)
          (elim w.else-not-marks-b.branch [
            | else-not-marks-b-via-then-not-marks-b+else-pulls w' ↦
                SpreadsTo-skip _ _ _ _ _ _ _ _ _ _ (λ pulled. absurd (cc (w'.pulls.ensures, w'.if-pulls.false, pulled))) c.loop-b.invariant
            | else-not-marks-b-via-else-not-marks-b w' ↦ SpreadsTo-skip _ _ _ _ _ _ _ _ _ _ (λ pulled. w'.if-not-marks-b.false) c.loop-b.invariant
          ])
    ]
