use Rattle.std.proofs.Common.{length, ◌∙◌, arith}
use Rattle.std.proofs.lemmas.List.Sorted.{IsPermutation-trans}
use Rattle.commit_arbiter.specs.Slots.{candidate_at}
use Rattle.commit_arbiter.specs.Heap.{upto}
use Rattle.commit_arbiter.proofs.Heaps.{at_leaf}
use Rattle.commit_arbiter.proofs.Swaps.{not_above_trans}
use Rattle.commit_arbiter.proofs.heap.settle.Goals as goal

pub loop-at-preserved : goal.loop-at-preserved
loop-at-preserved c =
    let exchange = c.sift_down_once-at.ensures.exchange in
    record {
      within = exchange.inside;
      long = exchange.long ∙ c.loop-at.invariant.long;
      heap = exchange.apart;
      capacity = c.sift_down_once-at.ensures.capacity ∙ c.loop-at.invariant.capacity;
      permuted =
          IsPermutation-trans c.args.slots.now.candidates c.loop-at.slots.candidates c.sift_down_once-at.new.slots.candidates c.loop-at.invariant.permuted exchange.permuted;
    }

pub sift_up-requires-clause-heap : goal.sift_up-requires-clause-heap
sift_up-requires-clause-heap c =
    let es = c.loop-at.slots.candidates in
    at_leaf upto not_above_trans (candidate_at es) (length es) c.loop-at.at c.loop-at.invariant.heap (omega arith)

pub returns-clause-permuted : goal.returns-clause-permuted
returns-clause-permuted c =
    IsPermutation-trans c.args.slots.now.candidates c.loop-at.slots.candidates c.sift_up.new.slots.candidates c.loop-at.invariant.permuted c.sift_up.ensures.permuted
