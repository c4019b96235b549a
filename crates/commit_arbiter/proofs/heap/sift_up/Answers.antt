use Rattle.std.proofs.Common.{◌∙◌, arith}
use Rattle.std.proofs.lemmas.List.Sorted.{IsPermutation-trans}
use Rattle.commit_arbiter.proofs.heap.sift_up.Goals as goal

pub returns-then-not-sift_up_once-clause-permuted : goal.returns-then-not-sift_up_once-clause-permuted
returns-then-not-sift_up_once-clause-permuted c =
    IsPermutation-trans c.args.slots.now.candidates c.loop-at.slots.candidates c.sift_up_once.new.slots.candidates c.loop-at.invariant.permuted c.sift_up_once.ensures.exchange.permuted

pub loop-at-preserved : goal.loop-at-preserved
loop-at-preserved c = record {
  within = (let long = c.sift_up_once.ensures.exchange.long in omega arith);
  heap = c.sift_up_once.ensures.exchange.up c.if-not-sift_up_once.false;
  capacity = c.sift_up_once.ensures.capacity ∙ c.loop-at.invariant.capacity;
  permuted =
      IsPermutation-trans c.args.slots.now.candidates c.loop-at.slots.candidates c.sift_up_once.new.slots.candidates c.loop-at.invariant.permuted c.sift_up_once.ensures.exchange.permuted;
}
