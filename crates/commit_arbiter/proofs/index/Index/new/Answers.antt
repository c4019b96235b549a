use Rattle.std.proofs.Common.{sym, ap, subst}
use Rattle.commit_arbiter.specs.Indexed.{closed_in}
use Rattle.commit_arbiter.specs.Heap.{IsHeapIndex}
use Rattle.commit_arbiter.proofs.Ordered.{empty_heap}
use Rattle.commit_arbiter.proofs.index.Index.new.Goals as goal

pub invariant_of-result : goal.invariant_of-result
invariant_of-result c = (
  subst (λ v. IsHeapIndex v.candidates) (sym c.in_ok-slots.ensures) empty_heap,
  sym (ap (λ v. closed_in v.candidates) c.in_ok-slots.ensures),
)
