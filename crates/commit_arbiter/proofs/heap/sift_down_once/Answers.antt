use Rattle.std.proofs.Common.{sym, subst}
use Rattle.commit_arbiter.specs.Heap.{SiftsDownOnce}
use Rattle.commit_arbiter.proofs.Swaps.{sifted_down_once}
use Rattle.commit_arbiter.proofs.heap.sift_down_once.Goals as goal

pub returns-clause-exchange : goal.returns-clause-exchange
returns-clause-exchange c =
    subst (λ v. SiftsDownOnce c.args.slots.now.candidates v.candidates c.args.at c.least_child-child.result)
    (sym c.note.ensures)
    (sifted_down_once c.args.slots.now.candidates c.swap.new.self.candidates c.args.at c.least_child-child.result c.requires.heap c.least_child-child.ensures c.swap.ensures.candidates)
