use Rattle.watch_text.proofs.Taken.{held_takes, some_takes}
use Rattle.watch_text.proofs.about.about_taken.Goals as goal

pub asked_by-requires : goal.asked_by-requires
asked_by-requires g c =
    let one = held_takes c.args.state.now.view c.args.tile c.args.core c.args.leg.now c.requires.takes c.in-Some.id.0
    c.in-Some.ensures in
    record { takes = (c.args.tile, c.args.core, one.0, one.1) }

pub unreachable-requires : goal.unreachable-requires
unreachable-requires g c =
    some_takes c.args.state.now.view c.args.tile c.args.core c.args.leg.now c.requires.takes c.in-None.ensures

pub returns-clause-request : goal.returns-clause-request
returns-clause-request g c =
    let one = held_takes c.args.state.now.view c.args.tile c.args.core c.args.leg.now c.requires.takes c.in-Some.id.0
    c.in-Some.ensures in
    (c.in-Some.id.0, one.0, one.1, c.asked_by.ensures c.args.tile c.args.core one.0 one.1)
