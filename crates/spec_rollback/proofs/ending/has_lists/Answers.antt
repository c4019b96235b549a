use Rattle.std.proofs.Common.{◌≡◌, ◌∙◌, sym, subst, length}
use Rattle.std.proofs.lemmas.List.{length-map}
use Rattle.std.proofs.lemmas.List.Elements.{All-map}
use Rattle.std.specs.Option.{option_map}
use Rattle.spill_store.specs.SpilledTasks.{BlockValue}
use Rattle.tile_queues.specs.Queue.{QueueValue}
use Rattle.spec_state.specs.StateValue.{StateValue}
use Rattle.spec_state.specs.declared.task.TaskId.{TaskId}
use Rattle.spec_state.specs.View.{core_ids}
use Rattle.spec_rollback.specs.Lists.{HasLists}
use Rattle.spec_rollback.proofs.ending.has_lists.Goals as goal

pub returns : goal.returns
returns g c =
    let s = c.state.inside in
    let tiles = c.state.invariant.1 in
    subst (λ (v : StateValue). HasLists v.view) c.state.view_is
    (record {
      queues = length-map s.queues.items (λ (q : QueueValue). q.ids) ∙ tiles.queue_count;
      finished = length-map s.finished.items (λ (q : QueueValue). q.ids) ∙ tiles.finished_count;
      cores = length-map s.cores.items (λ held. core_ids held.items) ∙ sym s.cores.ok.0 ∙ tiles.core_lists;
      each = All-map (λ cores. length cores ≡ s.settings.cores) (λ held. core_ids held.items) s.cores.items
          (λ k d within. (let held = Rattle.std.proofs.Common.slice_index_or s.cores.items k d in
          length-map held.items (option_map (λ (id : TaskId). id.0)) ∙ sym held.ok.0
          ∙ c.state.invariant.2 k d within));
      blocks = length-map s.blocks.items (λ (b : BlockValue). b.tasks) ∙ tiles.block_count;
    })
