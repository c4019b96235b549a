use Rattle.std.proofs.Common.{refl, ap, subst, ◌∙◌, sym}
use Rattle.rv_core.specs.Legs.{after_other_of}
use Rattle.undo_log.specs.Number.{IsAccessible}
use Rattle.undo_log.specs.Undo.{Store}
use Rattle.spec_dispatch.specs.spec_state.StateValue.{StateValue}
use Rattle.spec_dispatch.proofs.Below.spec_state.Proved.{formed_kept, indexed_set, keeps_some, noted_set, same_place}
use Rattle.spec_dispatch.proofs.Below.spec_state.Proved.{slots_set, stored_set}
use Rattle.spec_access.proofs.Accessed.{asks_inside, log_accessible, accessed}
use Rattle.spec_access.proofs.accessing.store_reserved.Goals as goal

pub store_with-requires-clause-within : goal.store_with-requires-clause-within
store_with-requires-clause-within g c =
    let inside = asks_inside g.N.Naming.image.data_size _ _ _ _ c.requires.asks c.to-to.ensures.run.inside in
    subst (λ n. IsAccessible n c.args.offset c.args.width) (sym c.state.invariant.4.memory) inside

pub invariant_of-state : goal.invariant_of-state
invariant_of-state g c =
    let found = c.index_mut-task.ensures.value in
    let was = c.state.invariant.4.tasks c.args.id.0 _ found in
    let inside = asks_inside g.N.Naming.image.data_size _ _ _ _ c.requires.asks c.to-to.ensures.run.inside in
    let log = log_accessible _ _ _ _ c.store_with.ensures.logged was.accesses inside in (
      c.state.invariant.0,
      c.state.invariant.1,
      c.state.invariant.2,
      slots_set _ _ _ _ _ _ _ c.state.invariant.3 found,
      stored_set _ _ c.args.id.0 _ _ _ c.state.invariant.4 found (same_place _ _ refl refl)
          (formed_kept _ _ _ _ was refl refl refl (keeps_some _ _ _) was.inner was.children log)
          (c.store_with.ensures.size ∙ c.state.invariant.4.memory),
      indexed_set _ _ _ _ _ _ _ _ c.state.invariant.5 found refl refl,
      noted_set _ _ _ _ _ found refl c.state.invariant.6,
    )

pub returns-clause-stores : goal.returns-clause-stores
returns-clause-stores g c tile core task takes had =
    accessed c.args.id.0 _ task (Store c.args.offset c.args.width c.args.value) (λ m. after_other_of c.args.leg.now.to)
    _ _ _ _ _ _ (ap (λ (v : StateValue). v.view) c.state.view_is) c.index_mut-task.ensures.value takes.runs.on.there
    c.put_behind.ensures
    c.store_with.ensures.logged c.mark.ensures c.store_with.ensures.stored had
