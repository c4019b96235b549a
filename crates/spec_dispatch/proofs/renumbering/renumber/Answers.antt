use Rattle.std.proofs.Common.{rules, ◌∙◌, length, ap, refl, arith}
use Rattle.std.proofs.lemmas.List.{length-map}
use Rattle.commit_arbiter.specs.Indexed.{renumbered_candidate}
use Rattle.spill_store.specs.Fronts.{lists_in}
use Rattle.spec_state.specs.StateValue.{StateValue}
use Rattle.spec_state.proofs.Proved.{few_tasks}
use Rattle.spec_dispatch.proofs.Renumbers.{blocks_held, index_held, indexed_after, is_table_here, noted_after}
use Rattle.spec_dispatch.proofs.Renumbers.{renumbers_seen, slots_renumbered, stored_renumbered}
use Rattle.spec_dispatch.proofs.renumbering.renumber.Goals as goal

pub fill-requires : goal.fill-requires
fill-requires g c =
    let few = few_tasks _ _ _ _ _ _ _ c.state.invariant.0.valid c.state.invariant.1 c.state.invariant.3 in
    record { spare = omega (arith, few, c.state.invariant.3.numbers) }

pub renumber_blocks-requires-clause-held : goal.renumber_blocks-requires-clause-held
renumber_blocks-requires-clause-held g c =
    blocks_held _ c.as_slice-table.result.now
    (is_table_here _ _ c.state.inside.tasks _ _ (ap (λ (v : StateValue). v.view) c.state.view_is) refl c.as_slice-table.ensures.value c.fill.ensures.rising c.fill.ensures.exact c.requires.held)

pub renumber-requires-clause-held : goal.renumber-requires-clause-held
renumber-requires-clause-held g c =
    index_held _ c.as_slice-table.result.now
    (is_table_here _ _ c.state.inside.tasks _ _ (ap (λ (v : StateValue). v.view) c.state.view_is) refl c.as_slice-table.ensures.value c.fill.ensures.rising c.fill.ensures.exact c.requires.held)
    _ _ _ c.state.invariant.5

pub returns-clause-few : goal.returns-clause-few
returns-clause-few g c =
    let few = few_tasks _ _ _ _ _ _ _ c.state.invariant.0.valid c.state.invariant.1 c.state.invariant.3 in
    omega (arith, few, c.fill.ensures.few, c.as_slice-table.ensures.len)

pub returns-clause-renumbers : goal.returns-clause-renumbers
returns-clause-renumbers g c =
    let table = is_table_here _ _ c.state.inside.tasks _ _ (ap (λ (v : StateValue). v.view) c.state.view_is) refl c.as_slice-table.ensures.value c.fill.ensures.rising c.fill.ensures.exact c.requires.held in
    renumbers_seen _ _ c.state.inside.tasks.slots _ _ _ c.state.inside.next c.state.inside.path c.state.inside.queues.items c.state.inside.finished.items _ (lists_in c.state.inside.blocks.items)
    c.as_slice-table.result.now _ _ _ _ c.renumber_tasks.ensures.slots c.renumber-state-inside.ensures
    c.renumber_blocks.ensures.spilled refl
    _ (ap (λ (v : StateValue). v.view) c.state.view_is) table

pub invariant_of-state : goal.invariant_of-state
invariant_of-state g c =
    let table = is_table_here _ _ c.state.inside.tasks _ _ (ap (λ (v : StateValue). v.view) c.state.view_is) refl c.as_slice-table.ensures.value c.fill.ensures.rising c.fill.ensures.exact c.requires.held in
    let renumbers = renumbers_seen _ _ c.state.inside.tasks.slots _ _ _ c.state.inside.next c.state.inside.path c.state.inside.queues.items c.state.inside.finished.items _ (lists_in c.state.inside.blocks.items)
    c.as_slice-table.result.now _ _ _ _ c.renumber_tasks.ensures.slots c.renumber-state-inside.ensures
    c.renumber_blocks.ensures.spilled refl _ refl table in (
      c.state.invariant.0,
      search rules,
      c.state.invariant.2,
      slots_renumbered _ _ _ _ c.state.invariant.3 c.as_slice-table.result.now _ _ _ _ _ c.renumber_tasks.ensures.slots c.renumber_tasks.ensures.capacity
          (ap length c.renumber.ensures.candidates ∙ length-map c.state.inside.index.candidates (renumbered_candidate c.as_slice-table.result.now)) c.renumber.ensures.capacity c.fill.ensures.capacity,
      stored_renumbered _ _ renumbers g.N.Naming.image.data_size c.state.invariant.4,
      indexed_after c.as_slice-table.result.now c.state.inside.tasks.slots c.renumber_tasks.new.tasks.slots _ _ _ c.state.inside.index.candidates c.renumber.new.self.candidates c.state.invariant.5
          c.renumber_tasks.ensures.slots c.renumber.ensures.candidates,
      noted_after c.as_slice-table.result.now c.state.inside.tasks.slots c.renumber_tasks.new.tasks.slots _ c.renumber_tasks.ensures.slots c.state.invariant.6,
    )
