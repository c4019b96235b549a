use Rattle.std.proofs.Common.{refl}
use Rattle.spec_dispatch.proofs.Readied.{free_still, least_still}
use Rattle.spec_dispatch.proofs.dispatching.dispatch_task.Goals as goal

pub place-requires-clause-least : goal.place-requires-clause-least
place-requires-clause-least g c = least_still _ _ c.args.tile c.args.id.0 c.free_number.ensures.frees c.requires.idle

pub unreachable-requires : goal.unreachable-requires
unreachable-requires g c =
    c.in-None.ensures.none.0 refl c.requires.free.0 (free_still _ _ c.args.tile c.requires.free.0 c.free_number.ensures.frees c.requires.free.1)
