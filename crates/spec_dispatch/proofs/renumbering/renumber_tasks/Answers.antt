use Rattle.std.proofs.Common.{ap, sym, ◌∙◌}
use Rattle.std.specs.Option.{option_copied_mut}
use Rattle.slab.specs.Slab.{Slab}
use Rattle.spec_state.specs.declared.task.Task.{Task}
use Rattle.spec_state.specs.Numbers.{renumbered_task}
use Rattle.spec_dispatch.proofs.Walked.{slot_stays, slot_changes}
use Rattle.spec_dispatch.proofs.renumbering.renumber_tasks.Goals.{in-Some, in_default}
use Rattle.spec_dispatch.proofs.renumbering.renumber_tasks.Goals as goal

pub loop-slot-preserved : goal.loop-slot-preserved
loop-slot-preserved c =
    let l = c.loop-slot in
    let f = renumbered_task c.args.table.now in
    elim c.match-get_mut.branch [
      | in-Some w ↦ (
        ap (λ (s : Slab Task). s.slots) w.tasks-is
            ∙ slot_changes f c.args.tasks.now.slots l.tasks.slots l.slot w.in-Some.task.now w.renumber_task.new.task l.invariant.0
            (sym c.get_mut.ensures.value ∙ ap option_copied_mut w.in-Some.is) w.renumber_task.ensures,
        ap (λ (s : Slab Task). s.capacity) w.tasks-is ∙ l.invariant.1,
      )
      | in_default w ↦ (
        ap (λ (s : Slab Task). s.slots) w.tasks-is
            ∙ slot_stays f c.args.tasks.now.slots l.tasks.slots l.slot l.invariant.0 (sym c.get_mut.ensures.value ∙ ap option_copied_mut w.in_default.is),
        ap (λ (s : Slab Task). s.capacity) w.tasks-is ∙ l.invariant.1,
      )
    ]
