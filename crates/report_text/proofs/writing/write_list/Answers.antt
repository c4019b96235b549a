use Rattle.std.proofs.Common.{◌≡◌, length, arith}
use Rattle.report_text.proofs.Written.{entry_written, entry_failed, entries_written}
use Rattle.report_text.proofs.writing.write_list.Goals as goal

pub returns-in-Err : goal.returns-in-Err
returns-in-Err g c =
    let state = g.K.Sink.state in
    entry_failed c.args.entries.now c.loop-index.index _ (state c.args.sink.now) (state c.loop-index.sink) (state c.write_entry.new.sink) c.in-Err.failed c.loop-index-test.true c.loop-index.invariant c.in-Err.ensures

pub loop-index-preserved : goal.loop-index-preserved
loop-index-preserved g c =
    let state = g.K.Sink.state in
    entry_written c.args.entries.now c.loop-index.index _ (state c.args.sink.now) (state c.loop-index.sink) (state c.write_entry.new.sink) c.loop-index-test.true c.loop-index.invariant c.in-Ok.ensures

pub returns : goal.returns
returns g c =
    let state = g.K.Sink.state in
    let all : c.loop-index.index ≡ length c.args.entries.now = omega arith in
    entries_written c.args.entries.now c.loop-index.index (state c.args.sink.now) (state c.loop-index.sink) all c.loop-index.invariant
