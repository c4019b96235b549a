use Rattle.std.proofs.Common.{◌≡◌, map, take, ap, arith, ◌∙◌}
use Rattle.machine_run.proofs.TapLists.{next_read, whole_read}
use Rattle.machine_run.proofs.lists.list_of.Goals as goal

pub loop-place-preserved : goal.loop-place-preserved
loop-place-preserved g c = λ list at.
    let taps = map g.T.Tap.notes c.args.book.now.taps.items in
    next_read taps c.args.tap list c.loop-place.place c.in-Some-tap_at.number c.loop-place.list.items c.push.new.self.items at (c.loop-place.invariant list at)
    c.in-Some-tap_at.ensures c.in_ok-push-in-Some-tap_at.ensures.items

pub returns : goal.returns
returns g c =
    let taps = map g.T.Tap.notes c.args.book.now.taps.items in
    let len = c.in-Some.len in
    let whole : c.loop-place.place ≡ len = omega arith in
    whole_read taps c.args.tap len c.loop-place.list.items c.in-Some.ensures
    (λ list at. c.loop-place.invariant list at ∙ ap (λ n. take n list) whole)
