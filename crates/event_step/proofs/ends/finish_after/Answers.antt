use Rattle.event_step.proofs.Stepping.{asks_still}
use Rattle.event_step.proofs.Ending.{of_there, stays, has_place, ends_telling}
use Rattle.event_step.proofs.ends.finish_after.Goals as goal

pub finish-requires-clause-asks : goal.finish-requires-clause-asks
finish-requires-clause-asks g c =
    let core = c.requires.takes.0 in
    let task = c.requires.takes.1 in
    let takes = c.requires.takes.2 in
    let later = of_there _ _ task c.requires.later takes.runs.on.there in
    asks_still g.N.Naming.image _ _ c.args.tile core _ _ task _ c.requires.asks takes
    (stays g.N.Naming.image _ c.args.tile core _ _ task c.requires.sound takes c.args.last.0 _ _ _
    c.requires.full later c.abort-aborted.ensures.aborts c.abort-aborted.ensures.effect)

pub finish-requires-clause-free : goal.finish-requires-clause-free
finish-requires-clause-free g c =
    let takes = c.requires.takes.2 in
    let later = of_there _ _ c.requires.takes.1 c.requires.later takes.runs.on.there in
    has_place g.N.Naming.image _ c.args.tile c.requires.takes.0 _ _ c.requires.takes.1 c.requires.sound takes
    c.args.last.0 _ _ _ c.requires.full later c.abort-aborted.ensures.aborts c.abort-aborted.ensures.effect

pub returns : goal.returns
returns g c core task takes =
    let later = of_there _ _ task c.requires.later takes.runs.on.there in
    let still = stays g.N.Naming.image _ c.args.tile core _ _ task c.requires.sound takes c.args.last.0 _ _ _
    c.requires.full later c.abort-aborted.ensures.aborts c.abort-aborted.ensures.effect in
    ends_telling g.N.Naming.image _ c.args.tile core _ _ task c.requires.sound takes c.args.last.0 _ _ _
    c.requires.full later c.abort-aborted.ensures.aborts c.abort-aborted.ensures.effect
    _ _ c.finish.ensures.effect (c.finish.ensures.finishes c.args.tile core task still.takes)
