use Rattle.std.proofs.Common.{rules}
use Rattle.sim_io.proofs.Steps.{SinkTakes-take}
use Rattle.sim_io.proofs.whole.write_all.Goals as goal

pub loop-at-preserved : goal.loop-at-preserved
loop-at-preserved g c = record {
  inside = search rules;
  taken =
      SinkTakes-take (g.K.Sink.state c.args.sink.now) (g.K.Sink.state c.loop-at.sink) (g.K.Sink.state c.write.new.self) c.args.piece.now c.loop-at.at c.in_ok-at.field-0 c.loop-at.invariant.taken (search rules);
  later = search rules;
}
