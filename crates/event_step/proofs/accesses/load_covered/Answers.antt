use Rattle.std.proofs.Common.{ap}
use Rattle.event_prelude.specs.spec_state.StateValue.{Spare}
use Rattle.event_step.proofs.Accessing.{asks_on, same_task, log_still, loads_telling}
use Rattle.event_step.proofs.accesses.load_covered.Goals as goal

pub load_reserved-requires-clause-asks : goal.load_reserved-requires-clause-asks
load_reserved-requires-clause-asks g c =
    asks_on g.N.Naming.image _ _ _ _ c.clear-aborted.ensures.stays _ c.requires.asks

pub load_reserved-requires-clause-covers : goal.load_reserved-requires-clause-covers
load_reserved-requires-clause-covers g c =
    let same = same_task g.N.Naming.image _ _ _ _ c.clear-aborted.ensures.stays _ c.requires.asks in
    let spare = ap (λ (s : Spare). s.log) c.clear-aborted.ensures.spare in
    log_still c.args.state.now c.clear-aborted.new.state c.args.id.0 same spare c.requires.covered

pub returns : goal.returns
returns g c tile core task takes =
    let still = c.clear-aborted.ensures.stays tile core task takes in
    loads_telling tile core _ c.args.id.0 task c.args.offset c.clear-aborted.result _ _ _ _ _
    c.load_reserved.ensures.effect c.args.width c.args.rd (c.clear-aborted.ensures.conflicts tile core task takes)
    (c.load_reserved.ensures.loads tile core task still.takes
    (still.sound.memory.noted c.args.id.0 task still.there))
