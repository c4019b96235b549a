use Rattle.std.proofs.Common.{refl}
use Rattle.spec_dispatch.proofs.dispatching.dispatch.Goals as goal

pub unreachable-requires : goal.unreachable-requires
unreachable-requires g c = c.in-None.ensures.none.0 refl c.requires.idle.0 c.requires.idle.1 c.requires.idle.2
