use Rattle.std.proofs.Common.{sym, subst}
use Rattle.spill_store.specs.Fronts.{IsFront}
use Rattle.spill_store.proofs.Walked.{same_lists}
use Rattle.spill_store.proofs.blocks.Blocks.reserve.Goals as goal

pub invariant_of-self : goal.invariant_of-self
invariant_of-self c =
    subst (λ lists. IsFront lists c.self.inside.front)
    (sym (same_lists c.self.inside.blocks.items c.args.tile c.index_mut.result.now c.reserve.new.self c.index_mut.ensures.value c.reserve.ensures.tasks)) c.self.invariant
