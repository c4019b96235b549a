use Rattle.event_step.proofs.legs.step.Goals as goal

pub returns-in-Some : goal.returns-in-Some
returns-in-Some g c taps steps =
    let takes = c.in-Some.ensures.some in c.make_step.ensures c.args.core takes.0 takes.1 taps steps
