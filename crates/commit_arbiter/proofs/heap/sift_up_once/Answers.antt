use Rattle.std.proofs.Common.{is_lt, true, false, ap, sym, subst, ◌∙◌}
use Rattle.commit_arbiter.specs.Heap.{SiftsUpOnce}
use Rattle.commit_arbiter.proofs.Swaps.{sifted_up_once, stayed_up}
use Rattle.commit_arbiter.proofs.heap.sift_up_once.Goals as goal

pub returns-then-is_lt-clause-exchange : goal.returns-then-is_lt-clause-exchange
returns-then-is_lt-clause-exchange c =
    subst (λ v. SiftsUpOnce c.args.slots.now.candidates v.candidates c.args.at true) (sym c.note.ensures)
    (sifted_up_once c.args.slots.now.candidates c.swap.new.self.candidates c.args.at c.get.result.now c.get-2.result.now c.requires.below c.requires.within c.requires.heap c.get.ensures c.get-2.ensures
    (ap is_lt (sym c.candidate_order.ensures) ∙ sym c.is_lt.ensures ∙ c.if-is_lt.true) c.swap.ensures.candidates)

pub returns-clause-exchange : goal.returns-clause-exchange
returns-clause-exchange c =
    subst (λ v. SiftsUpOnce c.args.slots.now.candidates v.candidates c.args.at false) (sym c.note-2.ensures)
    (stayed_up c.args.slots.now.candidates c.args.slots.now.candidates c.args.at c.get.result.now c.get-2.result.now c.requires.below c.requires.within c.requires.heap c.get.ensures c.get-2.ensures
    (ap is_lt (sym c.candidate_order.ensures) ∙ sym c.is_lt.ensures ∙ c.if-is_lt.false))
