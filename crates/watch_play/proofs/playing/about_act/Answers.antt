use Rattle.watch_play.proofs.AboutSteps.{step_is_taken}
use Rattle.watch_play.proofs.playing.about_act.Goals as goal

pub about_step-requires-clause-takes : goal.about_step-requires-clause-takes
about_step-requires-clause-takes g c =
    step_is_taken g.row.N.Denot g.N.Naming.image c.args.state.now.view c.args.act c.in-Step.field-0
    c.in-Step.field-1 c.in-Step.is c.args.asked.now c.args.leg.now c.requires.asks
