use Rattle.event_prelude.proofs.Standing.{may_by_least, tests_spilled}
use Rattle.event_prelude.proofs.rooming.may_return.Goals as goal

pub returns-else-queue_has_room : goal.returns-else-queue_has_room
returns-else-queue_has_room g c =
    may_by_least c.args.state.now.view c.args.tile c.queue_has_room.result c.is_spilled_at.result
    c.queue_has_room.ensures c.if-queue_has_room.false
    (tests_spilled c.args.state.now.view c.args.least c.requires.least c.is_spilled_at.result c.args.tile
    c.is_spilled_at.ensures)
