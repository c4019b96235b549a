use Rattle.std.proofs.Common.{◌≡◌, map}
use Rattle.trace_tap.proofs.Told.{front_noted}
use Rattle.trace_tap.proofs.tap.note_all.Given as goal

abbrev pub invariant-loop-tap : goal.invariant-loop-tap
invariant-loop-tap g l = map g.T.Tap.notes l.taps ≡ front_noted l.seen l.tap-index (map g.T.Tap.notes l.fn.taps)
