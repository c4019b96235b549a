use Rattle.std.proofs.Common.{rules, subst}
use Rattle.watch_play.specs.Telling.{TellsText}
use Rattle.fractal_watch.proofs.closing.tell_end.Goals as goal

pub returns-in-Memory : goal.returns-in-Memory
returns-in-Memory g c =
    subst (λ text. TellsText text (g.K.Sink.state c.args.sink.now) (g.K.Sink.state c.tell_text.new.sink)
    c.tell_text.result) (search rules) c.tell_text.ensures
