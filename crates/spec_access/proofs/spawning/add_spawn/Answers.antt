use Rattle.std.proofs.Common.{refl, ap}
use Rattle.spec_dispatch.specs.spec_state.StateValue.{StateValue}
use Rattle.spec_dispatch.proofs.Below.spec_state.Proved.{formed_kept, indexed_set, keeps_some, noted_set, same_place}
use Rattle.spec_dispatch.proofs.Below.spec_state.Proved.{slots_set, stored_set}
use Rattle.spec_access.proofs.Asking.{asks_limits}
use Rattle.spec_access.proofs.Enqueued.{one_more}
use Rattle.spec_access.proofs.spawning.add_spawn.Goals as goal

pub invariant_of-state : goal.invariant_of-state
invariant_of-state g c =
    let found = c.index_mut-task.ensures.value in
    let was = c.state.invariant.4.tasks c.args.id.0 _ found in
    let limits = asks_limits _ _ _ _ _ _ c.requires.asks (ap (λ (v : StateValue). v.view) c.state.view_is) found in
    let children = one_more _ c.args.spawn _ c.push_with.ensures limits in (
      c.state.invariant.0,
      c.state.invariant.1,
      c.state.invariant.2,
      slots_set _ _ _ _ _ _ _ c.state.invariant.3 found,
      stored_set _ _ c.args.id.0 _ _ _ c.state.invariant.4 found (same_place _ _ refl refl)
          (formed_kept _ _ _ _ was refl refl refl (keeps_some _ _ _) was.inner children was.accesses)
          c.state.invariant.4.memory,
      indexed_set _ _ _ _ _ _ _ _ c.state.invariant.5 found refl refl,
      noted_set _ _ _ _ _ found refl c.state.invariant.6,
    )
