use Rattle.std.proofs.Common.{arith, map, ◌∙◌}
use Rattle.std.proofs.lemmas.List.{length-map}
use Rattle.trace_tap.proofs.Told.{told_next, told_all}
use Rattle.trace_tap.proofs.tap.note_all.Goals as goal

pub loop-tap-preserved : goal.loop-tap-preserved
loop-tap-preserved g c =
    told_next g.T.Tap.notes c.args.seen.now c.loop-tap.taps (map g.T.Tap.notes c.args.taps.now) c.loop-tap.tap-index c.tap-item.result c.note.new.self c.loop-tap.invariant (omega arith) c.note.ensures

pub returns : goal.returns
returns g c =
    c.loop-tap.invariant
    ∙ told_all c.args.seen.now (map g.T.Tap.notes c.args.taps.now) c.loop-tap.tap-index (omega (arith, length-map c.args.taps.now g.T.Tap.notes))
