use Rattle.std.proofs.Common.{rules, subst}
use Rattle.watch_play.specs.Telling.{TellsText}
use Rattle.watch_play.proofs.opening.tell_lines.Goals as goal

pub returns : goal.returns
returns g c =
    subst (λ text. TellsText text (g.K.Sink.state c.args.sink.now) (g.K.Sink.state c.tell_text.new.sink)
    c.tell_text.result) (search rules) c.tell_text.ensures
