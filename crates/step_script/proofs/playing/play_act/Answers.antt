use Rattle.std.proofs.Common.{rules}
use Rattle.step_script.proofs.Does.{does_asked}
use Rattle.step_script.specs.Asking.{asks_of}
use Rattle.step_script.proofs.playing.play_act.Goals as goal

pub returns-in_default-reply-clause-does : goal.returns-in_default-reply-clause-does
returns-in_default-reply-clause-does g c =
    does_asked g.row.N.Denot g.N.Naming.image _ _ c.make-applied.result.reply c.make-applied.result.aborted c.args.act
    (asks_of c.in_ok-asked.asked c.ask.new.self.leg) (search rules) c.in_ok-asked.ensures.asks
    c.in_default-reply.not-Memory c.make-applied.ensures.comes
