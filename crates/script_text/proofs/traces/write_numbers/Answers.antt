use Rattle.std.proofs.Common.{◌≡◌, length, arith}
use Rattle.sim_io.proofs.Proved.{wrote_item, wrote_item_front, wrote_items}
use Rattle.script_text.specs.Traces.{number_line}
use Rattle.script_text.proofs.traces.write_numbers.Goals as goal

pub returns-in-Err : goal.returns-in-Err
returns-in-Err g c =
    let state = g.K.Sink.state in
    wrote_item_front number_line c.args.list.now c.loop-number.number-index _ (state c.args.sink.now) (state c.loop-number.sink)
    (state c.write_number.new.sink) c.in-Err.failed c.loop-number-test.true c.loop-number.invariant c.in-Err.ensures

pub loop-number-preserved : goal.loop-number-preserved
loop-number-preserved g c =
    let state = g.K.Sink.state in
    wrote_item number_line c.args.list.now c.loop-number.number-index _ (state c.args.sink.now) (state c.loop-number.sink)
    (state c.write_number.new.sink) c.loop-number-test.true c.loop-number.invariant c.in-Ok.ensures

pub returns : goal.returns
returns g c =
    let state = g.K.Sink.state in
    let all : c.loop-number.number-index ≡ length c.args.list.now = omega arith in
    wrote_items number_line c.args.list.now c.loop-number.number-index (state c.args.sink.now) (state c.loop-number.sink) all c.loop-number.invariant
