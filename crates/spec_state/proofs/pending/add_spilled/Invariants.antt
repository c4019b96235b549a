use Rattle.std.proofs.Common.{◌≡◌, ◌++◌, take, flat_map}
use Rattle.spill_store.specs.Fronts.{lists_in}
use Rattle.spec_state.specs.Pendings.{spilled_pending}
use Rattle.spec_state.proofs.pending.add_spilled.Given as goal

abbrev pub invariant-loop-block : goal.invariant-loop-block
invariant-loop-block l =
    l.list.items
    ≡ l.fn.list.items ++ spilled_pending l.count (flat_map (λ block. block) (lists_in (take l.block-index l.blocks)))
