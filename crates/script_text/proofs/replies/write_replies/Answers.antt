use Rattle.std.proofs.Common.{◌≡◌, length, arith}
use Rattle.sim_io.proofs.Proved.{wrote_item, wrote_item_front, wrote_items}
use Rattle.script_text.specs.Replies.{reply_line}
use Rattle.script_text.proofs.replies.write_replies.Goals as goal

pub returns-in-Err : goal.returns-in-Err
returns-in-Err g c =
    let state = g.K.Sink.state in
    wrote_item_front reply_line c.args.said.now c.loop-one.one-index _ (state c.args.sink.now) (state c.loop-one.sink)
    (state c.write_reply.new.sink) c.in-Err.failed c.loop-one-test.true c.loop-one.invariant c.in-Err.ensures

pub loop-one-preserved : goal.loop-one-preserved
loop-one-preserved g c =
    let state = g.K.Sink.state in
    wrote_item reply_line c.args.said.now c.loop-one.one-index _ (state c.args.sink.now) (state c.loop-one.sink)
    (state c.write_reply.new.sink) c.loop-one-test.true c.loop-one.invariant c.in-Ok.ensures

pub returns : goal.returns
returns g c =
    let state = g.K.Sink.state in
    let all : c.loop-one.one-index ≡ length c.args.said.now = omega arith in
    wrote_items reply_line c.args.said.now c.loop-one.one-index (state c.args.sink.now) (state c.loop-one.sink) all c.loop-one.invariant
