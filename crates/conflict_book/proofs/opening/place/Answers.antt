use Rattle.std.proofs.Common.{ap, refl}
use Rattle.event_step.specs.spec_state.declared.task.Creator.TheVariants.{Committed}
use Rattle.task_desc.specs.declared.desc.Name.{Name}
use Rattle.conflict_book.proofs.Fresh.{fresh_added}
use Rattle.conflict_book.proofs.opening.place.Goals as goal

pub returns-clause-fresh : goal.returns-clause-fresh
returns-clause-fresh g c =
    fresh_added c.in_ok-add.field-0.0 c.args.index _ c.make_queue_room.new.state.view c.add.new.self.view c.in_ok-make_queue_room.ensures.fresh c.in_ok-add.ensures.ok refl
    (ap (λ (n : Name). Committed n.creator n.index) c.image_desc.ensures.name)
