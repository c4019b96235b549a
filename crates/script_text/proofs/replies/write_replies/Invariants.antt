use Rattle.std.proofs.Common.{take}
use Rattle.std.specs.List.{flat_map}
use Rattle.sim_io.proofs.Proved.{Wrote}
use Rattle.script_text.specs.Replies.{reply_line}
use Rattle.script_text.proofs.replies.write_replies.Given as goal

abbrev pub invariant-loop-one : goal.invariant-loop-one
invariant-loop-one g l =
    Wrote (g.K.Sink.state l.fn.sink) (g.K.Sink.state l.sink) (flat_map reply_line (take l.one-index l.said))
