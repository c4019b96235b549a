use Rattle.std.proofs.Common.{refl}
use Rattle.spec_dispatch.proofs.Below.spec_state.Proved.{formed_kept, indexed_set, noted_set, slots_set, stored_set}
use Rattle.spec_dispatch.proofs.Below.spec_state.Proved.{trapped_place}
use Rattle.spec_access.proofs.Kept.{running_has}
use Rattle.spec_access.proofs.calling.call_trap.Goals as goal

pub invariant_of-state : goal.invariant_of-state
invariant_of-state g c =
    let found = c.index_mut-taker.ensures.value in
    let was = c.state.invariant.4.tasks c.args.task.0 _ found in (
      c.state.invariant.0,
      c.state.invariant.1,
      c.state.invariant.2,
      slots_set _ _ _ _ _ _ _ c.state.invariant.3 found,
      stored_set _ _ c.args.task.0 _ _ _ c.state.invariant.4 found
          (trapped_place _ _ _ _ refl c.held_core-core.ensures refl)
          (formed_kept _ _ _ _ was refl refl refl
          (running_has _ _ _ c.held_core-core.ensures) was.inner was.children was.accesses)
          c.state.invariant.4.memory,
      indexed_set _ _ _ _ _ _ _ _ c.state.invariant.5 found refl refl,
      noted_set _ _ _ _ _ found refl c.state.invariant.6,
    )
