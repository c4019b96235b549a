use Rattle.std.proofs.Common.{sym, ap, subst, map, ◌∙◌}
use Rattle.commit_arbiter.specs.Indexed.{renumbered_candidate, closed_in}
use Rattle.commit_arbiter.specs.Heap.{IsHeapIndex, in_rising_order}
use Rattle.commit_arbiter.proofs.Closed.{renumbered_closed}
use Rattle.commit_arbiter.proofs.Renumber.{ordered_renumbered, heap_renumbered, held_inside}
use Rattle.commit_arbiter.proofs.index.Index.renumber.Goals as goal

pub invariant_of-self : goal.invariant_of-self
invariant_of-self c =
    let old = c.self.inside.slots.candidates in
    let held = held_inside c.args.table.now old c.args.self.now.candidates (ap (λ v. v.candidates) c.self.view_is) c.requires.held in (
      subst IsHeapIndex (sym c.renumber.ensures.candidates)
          (heap_renumbered c.args.table.now old held c.self.invariant.0),
      c.self.invariant.1 ∙ sym (ap closed_in c.renumber.ensures.candidates ∙ renumbered_closed c.args.table.now old),
    )

pub returns-clause-candidates : goal.returns-clause-candidates
returns-clause-candidates c =
    let old = c.self.inside.slots.candidates in
    let held = held_inside c.args.table.now old c.args.self.now.candidates (ap (λ v. v.candidates) c.self.view_is) c.requires.held in
    ap in_rising_order c.renumber.ensures.candidates ∙ ordered_renumbered c.args.table.now old held
    ∙ ap (λ v. map (renumbered_candidate c.args.table.now) v.candidates) c.self.view_is
