use Rattle.std.proofs.Common.{subst}
use Rattle.event_prelude.specs.event_def.declared.event.Came.TheVariants.{Made}
use Rattle.event_prelude.specs.event_def.declared.event.Event.TheVariants as event
use Rattle.event_move.specs.Moving.{ComesSo}
use Rattle.event_move.proofs.spilling.make_split.Goals as goal

pub returns-in-Ok : goal.returns-in-Ok
returns-in-Ok g c =
    subst (λ view. ComesSo g.row.N.Denot view (event.Split c.args.tile) (Made c.return_to_queue.result)
    c.return_to_queue.new.state.view c.return_to_queue.new.state.effect)
    c.reserve.ensures.view c.return_to_queue.ensures
