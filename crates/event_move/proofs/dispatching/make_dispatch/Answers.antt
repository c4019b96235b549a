use Rattle.std.proofs.Common.{◌<◌, sym, subst}
use Rattle.event_prelude.specs.spec_state.declared.settings.Settings.{Settings}
use Rattle.event_prelude.proofs.Below.event_basis.Proved.{core_leaves_idle, sound_numbers}
use Rattle.event_move.proofs.Dispatched.{dispatched}
use Rattle.event_move.proofs.dispatching.make_dispatch.Goals as goal

pub dispatch_task-requires-clause-tile : goal.dispatch_task-requires-clause-tile
dispatch_task-requires-clause-tile g c =
    let left = core_leaves_idle g.N.Naming.image c.args.state.now.view c.args.tile c.args.id.0 c.requires.idle.0 _ _ c.requires.sound
    c.requires.idle.1 c.requires.may c.clear_core-aborted.ensures.frees.0 in
    subst (λ (s : Settings). c.args.tile < s.tiles) (sym left.like.settings) c.requires.tile

pub dispatch_task-requires-clause-idle : goal.dispatch_task-requires-clause-idle
dispatch_task-requires-clause-idle g c =
    let left = core_leaves_idle g.N.Naming.image c.args.state.now.view c.args.tile c.args.id.0 c.requires.idle.0 _ _ c.requires.sound
    c.requires.idle.1 c.requires.may c.clear_core-aborted.ensures.frees.0 in
    (c.requires.idle.0, left.idle)

pub dispatch_task-requires-clause-free : goal.dispatch_task-requires-clause-free
dispatch_task-requires-clause-free g c =
    let left = core_leaves_idle g.N.Naming.image c.args.state.now.view c.args.tile c.args.id.0 c.requires.idle.0 _ _ c.requires.sound
    c.requires.idle.1 c.requires.may c.clear_core-aborted.ensures.frees.0 in
    (left.core, left.free)

pub dispatch_task-requires-clause-held : goal.dispatch_task-requires-clause-held
dispatch_task-requires-clause-held g c many =
    let left = core_leaves_idle g.N.Naming.image c.args.state.now.view c.args.tile c.args.id.0 c.requires.idle.0 _ _ c.requires.sound
    c.requires.idle.1 c.requires.may c.clear_core-aborted.ensures.frees.0 in
    sound_numbers g.N.Naming.image c.clear_core-aborted.new.state.view left.sound

pub returns : goal.returns
returns g c =
    dispatched g.row.N.Denot c.args.state.now.view c.requires.goes_on c.args.tile c.args.id.0 c.clear_core-aborted.result c.requires.idle.0
    c.clear_core-aborted.new.state.view c.dispatch_task.new.state.view c.clear_core-aborted.new.state.effect
    c.dispatch_task.new.state.effect c.record_of.result c.requires.idle.1 c.requires.may
    c.clear_core-aborted.ensures.frees c.clear_core-aborted.ensures.arrived c.dispatch_task.ensures.dispatch
    c.dispatch_task.ensures.effect c.record_of.ensures
