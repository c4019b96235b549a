use Rattle.event_prelude.specs.spec_state.StateValue.{Spare}
use Rattle.event_step.proofs.Accessing.{of_ok, child_still}
use Rattle.event_step.proofs.Stepping.{asks_still}
use Rattle.event_step.proofs.Placing.{stays_asking, free_place, places_telling, still_inside}
use Rattle.event_step.proofs.enqueues.place.Goals as goal
use Rattle.std.proofs.Common.{◌∙◌, sym, ap}

pub enqueue_child-requires-clause-asks : goal.enqueue_child-requires-clause-asks
enqueue_child-requires-clause-asks g c =
    let asks = c.requires.asks in
    asks_still g.N.Naming.image _ _ asks.tile asks.core _ _ asks.task _ asks asks.takes
    (stays_asking g.N.Naming.image _ asks.tile asks.core _ c.args.tile _ asks.task _ _ c.requires.sound
    asks.takes c.make_room-aborted.ensures.makes.0)

pub enqueue_child-requires-clause-tile : goal.enqueue_child-requires-clause-tile
enqueue_child-requires-clause-tile g c =
    let asks = c.requires.asks in
    still_inside g.N.Naming.image _ asks.tile asks.core _ c.args.tile _ asks.task _ _ c.requires.sound
    asks.takes c.make_room-aborted.ensures.makes.0
    c.requires.tile

pub enqueue_child-requires-clause-free : goal.enqueue_child-requires-clause-free
enqueue_child-requires-clause-free g c =
    let asks = c.requires.asks in
    free_place g.N.Naming.image _ asks.tile asks.core _ c.args.tile _ asks.task _ _ c.requires.sound asks.takes
    c.make_room-aborted.ensures.makes.0

pub returns : goal.returns
returns g c from core task takes =
    let still = stays_asking g.N.Naming.image _ from core _ c.args.tile _ task _ _ c.requires.sound takes
    c.make_room-aborted.ensures.makes.0 in
    let spare = ap (λ (s : Spare). s.spawns) c.make_room-aborted.ensures.others.frame in
    let covers = child_still c.args.state.now c.make_room-aborted.new.state c.args.id.0 (still.there ∙ sym
    takes.runs.on.there) spare
    c.requires.covered.child in
    places_telling c.args.tile c.args.id.0 task c.args.leg.now c.args.child _ _ _ _ _ _
    c.make_room-aborted.ensures.makes c.enqueue_child.ensures.effect
    (of_ok _ _ c.enqueue_child.ensures.enqueues (c.enqueue_child.ensures.covered covers) from core task still.takes)
