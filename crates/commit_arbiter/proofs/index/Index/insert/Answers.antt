use Rattle.std.proofs.Common.{◌∷◌, length, sym, ap, subst, ◌∙◌, arith}
use Rattle.fractal_vt.specs.Sorted.{after_insert}
use Rattle.commit_arbiter.specs.declared.candidate.Candidate.{Candidate}
use Rattle.commit_arbiter.specs.Indexed.{candidate_cmp, HasId}
use Rattle.commit_arbiter.specs.Slots.{candidate_at}
use Rattle.commit_arbiter.specs.Heap.{IsHeapUp, upto}
use Rattle.commit_arbiter.proofs.Closed.{grown_closed}
use Rattle.commit_arbiter.proofs.Ordered.{as_long, heap_grown, ids_grown, put_in_heap, in_rising_order-permutation}
use Rattle.commit_arbiter.proofs.index.Index.insert.Goals as goal

pub push-requires : goal.push-requires
push-requires c =
    omega (arith, as_long c.self.inside.slots.candidates c.args.self.now.candidates (ap (λ v. v.candidates) c.self.view_is), ap (λ v. v.capacity) c.self.view_is)

pub sift_up-requires-clause-heap : goal.sift_up-requires-clause-heap
sift_up-requires-clause-heap c =
    let candidate : Candidate =
    record { key = c.args.key.now; tile = c.args.tile; arrival = c.args.arrival; id = c.args.id } in
    let old = c.self.inside.slots.candidates in
    let new = c.push.new.self.candidates in
    subst (IsHeapUp upto (candidate_at new) (length new)) (sym c.len-place.ensures)
    (heap_grown old new candidate c.push.ensures.candidates c.self.invariant.0.heap)

pub invariant_of-self : goal.invariant_of-self
invariant_of-self c =
    let candidate : Candidate =
    record { key = c.args.key.now; tile = c.args.tile; arrival = c.args.arrival; id = c.args.id } in
    let old = c.self.inside.slots.candidates in
    let put = put_in_heap candidate old c.push.new.self.candidates c.sift_up.new.slots.candidates c.push.ensures.candidates c.sift_up.ensures.permuted in (
      record {
        heap = c.sift_up.ensures.heap;
        ids =
            ids_grown candidate old c.sift_up.new.slots.candidates (λ has. c.requires.other (subst (λ v. HasId c.args.id v.candidates) c.self.view_is has)) put c.self.invariant.0.ids;
      },
      c.closed_with-self-inside.ensures,
    )

pub closed_with-self-inside-requires : goal.closed_with-self-inside-requires
closed_with-self-inside-requires c =
    let candidate : Candidate =
    record { key = c.args.key.now; tile = c.args.tile; arrival = c.args.arrival; id = c.args.id } in
    let old = c.self.inside.slots.candidates in
    let put = put_in_heap candidate old c.push.new.self.candidates c.sift_up.new.slots.candidates c.push.ensures.candidates c.sift_up.ensures.permuted in
    let more = grown_closed candidate old c.sift_up.new.slots.candidates put in
    let was = c.self.invariant.1 in
    omega (arith, more, was)

pub returns-clause-candidates : goal.returns-clause-candidates
returns-clause-candidates c =
    let candidate : Candidate =
    record { key = c.args.key.now; tile = c.args.tile; arrival = c.args.arrival; id = c.args.id } in
    let old = c.self.inside.slots.candidates in
    let put = put_in_heap candidate old c.push.new.self.candidates c.sift_up.new.slots.candidates c.push.ensures.candidates c.sift_up.ensures.permuted in
    in_rising_order-permutation (candidate ∷ old) c.sift_up.new.slots.candidates put
    ∙ ap (λ v. after_insert candidate_cmp (record { key = c.args.key.now; tile = c.args.tile; arrival = c.args.arrival; id = c.args.id }) v.candidates) c.self.view_is
