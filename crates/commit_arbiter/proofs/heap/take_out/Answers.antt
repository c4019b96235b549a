use Rattle.std.proofs.Common.{◌-◌, ◌∷◌, arith}
use Rattle.std.proofs.lemmas.List.Sorted.{IsPermutation-trans, IsPermutation-cons}
use Rattle.commit_arbiter.specs.Slots.{candidate_at}
use Rattle.commit_arbiter.proofs.Swaps.{apart_after, heap_after, permuted_after, dropped}
use Rattle.commit_arbiter.proofs.heap.take_out.Goals as goal

pub settle-requires-clause-heap : goal.settle-requires-clause-heap
settle-requires-clause-heap c =
    apart_after c.args.slots.now.candidates c.swap.new.self.candidates c.pop.new.self.candidates c.args.place (c.len-last.result - 1) c.requires.heap c.swap.ensures.candidates (dropped c.swap.new.self.candidates c.pop.new.self.candidates (c.len-last.result - 1) c.pop.ensures.candidates (let long = c.swap.ensures.candidates.long in omega arith)) (omega arith) c.if-place-last.true

pub returns-then-place-last-clause-permuted : goal.returns-then-place-last-clause-permuted
returns-then-place-last-clause-permuted c =
    let old = c.args.slots.now.candidates in
    let x = candidate_at old c.args.place in
    IsPermutation-trans old (x ∷ c.pop.new.self.candidates) (x ∷ c.settle.new.slots.candidates)
    (permuted_after old c.swap.new.self.candidates c.pop.new.self.candidates c.args.place (c.len-last.result - 1) c.swap.ensures.candidates (dropped c.swap.new.self.candidates c.pop.new.self.candidates (c.len-last.result - 1) c.pop.ensures.candidates (let long = c.swap.ensures.candidates.long in omega arith)) (omega arith))
    (IsPermutation-cons x c.pop.new.self.candidates c.settle.new.slots.candidates c.settle.ensures.permuted)

pub returns-else-place-last-clause-heap : goal.returns-else-place-last-clause-heap
returns-else-place-last-clause-heap c =
    heap_after c.args.slots.now.candidates c.swap.new.self.candidates c.pop.new.self.candidates c.args.place (c.len-last.result - 1) c.requires.heap c.swap.ensures.candidates (dropped c.swap.new.self.candidates c.pop.new.self.candidates (c.len-last.result - 1) c.pop.ensures.candidates (let long = c.swap.ensures.candidates.long in omega arith)) (omega arith) (omega arith)

pub returns-else-place-last-clause-permuted : goal.returns-else-place-last-clause-permuted
returns-else-place-last-clause-permuted c =
    permuted_after c.args.slots.now.candidates c.swap.new.self.candidates c.pop.new.self.candidates c.args.place (c.len-last.result - 1) c.swap.ensures.candidates (dropped c.swap.new.self.candidates c.pop.new.self.candidates (c.len-last.result - 1) c.pop.ensures.candidates (let long = c.swap.ensures.candidates.long in omega arith)) (omega arith)
