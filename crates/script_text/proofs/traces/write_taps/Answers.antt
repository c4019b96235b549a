use Rattle.std.proofs.Common.{rules, ◌≡◌, ◌<◌, length, map, arith}
use Rattle.std.proofs.lemmas.List.{length-map}
use Rattle.script_text.proofs.Written.{items_at, tap_failed, tap_written, taps_written}
use Rattle.script_text.proofs.traces.write_taps.Goals as goal

pub returns-in-Err : goal.returns-in-Err
returns-in-Err g c =
    let state = g.K.Sink.state in
    let list = c.index-lists-index.result in
    let lt : c.loop-index.index < length c.args.lists.now = search rules in
    tap_failed (map (λ list. list.items) c.args.lists.now) c.loop-index.index list.items (state c.args.sink.now) (state c.loop-index.sink)
    (state c.write_tap.new.sink) c.in-Err.failed (rw length-map lt) (items_at _ c.args.lists.now c.loop-index.index list lt (search rules))
    c.loop-index.invariant (rw c.as_slice.ensures.value at c.in-Err.ensures)

pub loop-index-preserved : goal.loop-index-preserved
loop-index-preserved g c =
    let state = g.K.Sink.state in
    let list = c.index-lists-index.result in
    let lt : c.loop-index.index < length c.args.lists.now = search rules in
    tap_written (map (λ list. list.items) c.args.lists.now) c.loop-index.index list.items (state c.args.sink.now) (state c.loop-index.sink)
    (state c.write_tap.new.sink) (rw length-map lt) (items_at _ c.args.lists.now c.loop-index.index list lt (search rules))
    c.loop-index.invariant (rw c.as_slice.ensures.value at c.in-Ok.ensures)

pub returns : goal.returns
returns g c =
    let state = g.K.Sink.state in
    let all : c.loop-index.index ≡ length c.args.lists.now = omega arith in
    taps_written (map (λ list. list.items) c.args.lists.now) c.loop-index.index (state c.args.sink.now) (state c.loop-index.sink)
    (rw length-map all) c.loop-index.invariant
