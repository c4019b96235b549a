use Rattle.std.proofs.Common.{◌≡◌, ◌∙◌, ap, length}
use Rattle.spill_store.specs.SpilledTasks.{Spilled}
use Rattle.spec_state.specs.StateValue.{StateValue}
use Rattle.spec_state.specs.Fronts.{name_given}
use Rattle.spec_state.specs.Tasks.{descriptor_of, spilled_as}
use Rattle.spec_commit.proofs.Moving.{spills}
use Rattle.spec_commit.proofs.coalescing.spill.Goals as goal

pub returns-clause-spills : goal.returns-clause-spills
returns-clause-spills g c =
    let task = c.task.result.now in
    let s : Spilled = record { desc = c.spilled_desc-desc.result; domain = task.key.domain } in
    let is : s ≡ spilled_as (name_given task.creator c.count-count.result) (descriptor_of task) =
    (λ i. record { desc = c.spilled_desc-desc.ensures.value i; domain = task.key.domain }) in
    spills g.N.Naming.image.data_size c.args.tile c.args.id.0 c.args.state.now.view c.push_spilled.new.state.view
    c.take_out.new.self.view task s c.count-count.result c.is_stored-2.ensures c.requires.idle c.task.ensures
    c.push_spilled.ensures.view c.take_out.ensures.leaves
    (c.count-count.ensures.count ∙ ap (λ (v : StateValue). length v.view.history) c.state.view_is) is
