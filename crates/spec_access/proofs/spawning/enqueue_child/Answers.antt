use Rattle.std.proofs.Common.{subst}
use Rattle.spec_dispatch.specs.spec_state.View.{View}
use Rattle.spec_access.specs.Asking.{OfTaker}
use Rattle.spec_access.specs.Telling.{EnqueuesTold}
use Rattle.spec_access.proofs.spawning.enqueue_child.Goals as goal

pub returns-clause-enqueues : goal.returns-clause-enqueues
returns-clause-enqueues g c =
    let new = c.spawn_reserved.new.state in
    subst (λ (v : View). OfTaker v c.args.leg.now c.args.id.0 (λ from core task.
    EnqueuesTold c.args.id.0 task c.args.leg.now c.args.spawn c.args.tile v new.view new.effect.arrived))
    c.reserve_child.ensures.view c.spawn_reserved.ensures.enqueues
