use Rattle.event_prelude.proofs.Below.event_basis.Proved.{sound_by_key}
use Rattle.event_move.proofs.Aborted.{aborted_latest}
use Rattle.event_move.proofs.aborting.make_abort.Goals as goal

pub returns : goal.returns
returns g c =
    let keyed = sound_by_key g.N.Naming.image c.args.state.now.view c.requires.sound in
    aborted_latest g.row.N.Denot c.args.state.now.view c.requires.goes_on c.args.tile g.N.Naming.image c.args.id.0
    c.abort-aborted.result c.requires.latest.0 c.abort-aborted.new.state.view c.abort-aborted.new.state.effect
    c.record_of.result c.requires.sound c.requires.latest.1 c.requires.other
    (c.abort-aborted.ensures.aborts keyed.0 keyed.1) c.abort-aborted.ensures.effect c.record_of.ensures
