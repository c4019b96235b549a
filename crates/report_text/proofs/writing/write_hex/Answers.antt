use Rattle.std.proofs.Common.{◌≤◌, rules}
use Rattle.report_text.proofs.Written.{chunk_written, chunk_failed}
use Rattle.report_text.proofs.writing.write_hex.Goals as goal

pub loop-at-preserved : goal.loop-at-preserved
loop-at-preserved g c =
    let state = g.K.Sink.state in
    let le : c.loop-at.at ≤ c.min-end.result = search rules in
    record {
      inside = search rules;
      wrote =
          chunk_written c.args.bytes.now c.loop-at.at c.min-end.result (state c.args.sink.now) (state c.loop-at.sink) (state c.write_chunk.new.sink) le c.loop-at.invariant.wrote c.in-Ok.ensures;
    }

pub returns-in-Err : goal.returns-in-Err
returns-in-Err g c =
    let state = g.K.Sink.state in
    let le : c.loop-at.at ≤ c.min-end.result = search rules in
    chunk_failed c.args.bytes.now c.loop-at.at c.min-end.result (state c.args.sink.now) (state c.loop-at.sink) (state c.write_chunk.new.sink) c.in-Err.failed le c.loop-at.invariant.wrote c.in-Err.ensures
