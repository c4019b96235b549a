use Rattle.machine_tests.proofs.steps.holder.Goals as goal

pub returns : goal.returns
returns g c =
    let has = (c.is_stored.ensures.held_are c.args.tile c.args.core c.in-Some.id.0).0 c.in-Some.ensures in
    (has.0, record { held = c.in-Some.ensures; there = has.1 })
