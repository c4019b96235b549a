use Rattle.std.proofs.Common.{rules}
use Rattle.watch_play.specs.Made.{play_of}
use Rattle.watch_play.proofs.Tellings.{act_untold}
use Rattle.watch_play.proofs.playing.tell_act.Goals as goal

pub returns-else-has_lines-clause-tells : goal.returns-else-has_lines-clause-tells
returns-else-has_lines-clause-tells g c =
    act_untold g.row.N.Denot g.N.Naming.image c.args.telling c.args.at c.args.printer.now.told c.make_act.new.told
    c.args.act (play_of g.P.Placer.policy g.T.Tap.notes c.args.play.now)
    (play_of g.P.Placer.policy g.T.Tap.notes c.make_act.new.play) (g.K.Sink.state c.args.sink.now) c.make_act.result
    (search rules) c.make_act.ensures.makes
