use Rattle.std.proofs.Common.{◌<◌, sym, subst}
use Rattle.event_prelude.specs.spec_state.declared.settings.Settings.{Settings}
use Rattle.event_prelude.specs.spec_state.Room.{Splitter}
use Rattle.event_prelude.proofs.Below.event_basis.Proved.{room_leaves, room_leaves_block, sound_named}
use Rattle.event_move.proofs.Moved.{came_back, of_ok}
use Rattle.event_move.proofs.spilling.return_to_queue.Goals as goal

pub split-requires-clause-tile : goal.split-requires-clause-tile
split-requires-clause-tile g c =
    let left = room_leaves g.N.Naming.image c.args.tile Splitter c.args.state.now.view _ _ c.requires.sound tt
    c.make_room-aborted.ensures.makes.0 in
    subst (λ (s : Settings). c.args.tile < s.tiles) (sym left.like.settings) c.requires.tile

pub split-requires-clause-some : goal.split-requires-clause-some
split-requires-clause-some g c =
    room_leaves_block g.N.Naming.image c.args.tile c.args.state.now.view _ _ c.requires.sound c.requires.some c.requires.may
    c.make_room-aborted.ensures.makes.0

pub split-requires-clause-free : goal.split-requires-clause-free
split-requires-clause-free g c =
    (room_leaves g.N.Naming.image c.args.tile Splitter c.args.state.now.view _ _ c.requires.sound tt
    c.make_room-aborted.ensures.makes.0).free

pub split-requires-clause-named : goal.split-requires-clause-named
split-requires-clause-named g c =
    let left = room_leaves g.N.Naming.image c.args.tile Splitter c.args.state.now.view _ _ c.requires.sound tt
    c.make_room-aborted.ensures.makes.0 in
    sound_named g.N.Naming.image c.make_room-aborted.new.state.view c.args.tile left.sound

pub returns : goal.returns
returns g c =
    came_back g.row.N.Denot c.args.state.now.view c.requires.goes_on c.args.tile c.make_room-aborted.result
    c.make_room-aborted.new.state.view c.split.new.state.view c.make_room-aborted.new.state.effect
    c.split.new.state.effect c.record_of.result c.requires.some c.requires.may c.make_room-aborted.ensures.makes
    (of_ok _ c.split.ensures.covered c.split.ensures.ok) c.record_of.ensures
