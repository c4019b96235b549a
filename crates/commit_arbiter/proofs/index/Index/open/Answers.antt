use Rattle.std.proofs.Common.{rules, None, ap, arith}
use Rattle.std.proofs.lemmas.Option.{slice_get_within, get_or_from_slice_get}
use Rattle.commit_arbiter.specs.declared.candidate.Candidate.{Candidate}
use Rattle.commit_arbiter.specs.Indexed.{one_closed}
use Rattle.commit_arbiter.specs.Slots.{blank_candidate}
use Rattle.commit_arbiter.proofs.Closed.{tied_closed}
use Rattle.commit_arbiter.proofs.Tied.{apart_tied, ids_kept, candidates_tied, count_tied, seen_there}
use Rattle.commit_arbiter.proofs.index.Index.open.Goals as goal

pub settle-requires-clause-heap : goal.settle-requires-clause-heap
settle-requires-clause-heap c =
    let old = c.self.inside.slots.candidates in
    apart_tied None c.args.id c.in-Some.place old c.set_tb.new.self.candidates c.in-Some.ensures.some c.set_tb.ensures.candidates c.self.invariant.0.heap

pub invariant_of-self : goal.invariant_of-self
invariant_of-self c =
    let old = c.self.inside.slots.candidates in
    let less = tied_closed None c.in-Some.place old c.set_tb.new.self.candidates c.settle.new.slots.candidates (slice_get_within old c.in-Some.place c.get.result.now c.get.ensures) c.set_tb.ensures.candidates c.settle.ensures.permuted in
    let one = ap (λ (e : Candidate). one_closed e.key.tb) (get_or_from_slice_get old c.in-Some.place c.get.result.now blank_candidate c.get.ensures) in
    let told = c.one_closed.ensures in
    let was = c.self.invariant.1 in (
      record {
        heap = c.settle.ensures.heap;
        ids =
            ids_kept (None) c.args.id c.in-Some.place old c.set_tb.new.self.candidates c.in-Some.ensures.some c.set_tb.ensures.candidates c.settle.new.slots.candidates c.settle.ensures.permuted c.self.invariant.0;
      },
      omega (arith, less, one, told, was),
    )

pub overflow_sub-self : goal.overflow_sub-self
overflow_sub-self c =
    let old = c.self.inside.slots.candidates in
    let less = tied_closed None c.in-Some.place old c.set_tb.new.self.candidates c.settle.new.slots.candidates (slice_get_within old c.in-Some.place c.get.result.now c.get.ensures) c.set_tb.ensures.candidates c.settle.ensures.permuted in
    let one = ap (λ (e : Candidate). one_closed e.key.tb) (get_or_from_slice_get old c.in-Some.place c.get.result.now blank_candidate c.get.ensures) in
    let told = c.one_closed.ensures in
    let was = c.self.invariant.1 in
    omega (arith, less, one, told, was)

pub unreachable-requires : goal.unreachable-requires
unreachable-requires c =
    c.in-None.ensures.none (search rules) (seen_there c.args.id c.self.inside.slots.candidates c.args.self.now.candidates (ap (λ v. v.candidates) c.self.view_is) c.requires)

pub returns-clause-count : goal.returns-clause-count
returns-clause-count c =
    count_tied (None) c.args.id c.in-Some.place c.self.inside.slots.candidates c.set_tb.new.self.candidates c.in-Some.ensures.some c.set_tb.ensures.candidates c.settle.new.slots.candidates c.settle.ensures.permuted c.self.invariant.0 c.args.self.now.candidates (ap (λ v. v.candidates) c.self.view_is)

pub returns-clause-candidates : goal.returns-clause-candidates
returns-clause-candidates c =
    candidates_tied (None) c.args.id c.in-Some.place c.self.inside.slots.candidates c.set_tb.new.self.candidates c.in-Some.ensures.some c.set_tb.ensures.candidates c.settle.new.slots.candidates c.settle.ensures.permuted c.self.invariant.0 c.args.self.now.candidates (ap (λ v. v.candidates) c.self.view_is)
