use Rattle.std.proofs.Common.{rules, Some, ap, arith}
use Rattle.std.proofs.lemmas.Option.{slice_get_within}
use Rattle.commit_arbiter.specs.Indexed.{one_closed}
use Rattle.commit_arbiter.specs.Slots.{candidate_at}
use Rattle.commit_arbiter.proofs.Closed.{tied_closed}
use Rattle.commit_arbiter.proofs.Tied.{up_tied, open_there, closed_upto, open_has, ids_kept, candidates_tied}
use Rattle.commit_arbiter.proofs.Tied.{count_tied, seen_there}
use Rattle.commit_arbiter.proofs.index.Index.close.Goals as goal

pub sift_up-requires-clause-heap : goal.sift_up-requires-clause-heap
sift_up-requires-clause-heap c =
    let old = c.self.inside.slots.candidates in
    let tie = open_there (Some c.args.tb) c.args.id c.in-Some.place old c.set_tb.new.self.candidates c.in-Some.ensures.some c.set_tb.ensures.candidates c.args.self.now.candidates (ap (λ v. v.candidates) c.self.view_is) c.self.invariant.0 c.requires in
    up_tied (Some c.args.tb) c.args.id c.in-Some.place old c.set_tb.new.self.candidates c.in-Some.ensures.some c.set_tb.ensures.candidates (closed_upto c.args.tb (candidate_at old c.in-Some.place) tie) c.self.invariant.0.heap

pub invariant_of-self : goal.invariant_of-self
invariant_of-self c = (
  record {
    heap = c.sift_up.ensures.heap;
    ids =
        ids_kept (Some c.args.tb) c.args.id c.in-Some.place c.self.inside.slots.candidates c.set_tb.new.self.candidates c.in-Some.ensures.some c.set_tb.ensures.candidates c.sift_up.new.slots.candidates c.sift_up.ensures.permuted c.self.invariant.0;
  },
  c.closed_with-self-inside.ensures,
)

pub closed_with-self-inside-requires : goal.closed_with-self-inside-requires
closed_with-self-inside-requires c =
    let old = c.self.inside.slots.candidates in
    let there = c.in-Some.ensures.some in
    let tie = open_there (Some c.args.tb) c.args.id c.in-Some.place old c.set_tb.new.self.candidates there c.set_tb.ensures.candidates c.args.self.now.candidates (ap (λ v. v.candidates) c.self.view_is) c.self.invariant.0 c.requires in
    let none = ap one_closed tie in
    let more = tied_closed (Some c.args.tb) c.in-Some.place old c.set_tb.new.self.candidates c.sift_up.new.slots.candidates (slice_get_within old c.in-Some.place there.candidate there.there) c.set_tb.ensures.candidates c.sift_up.ensures.permuted in
    let was = c.self.invariant.1 in
    omega (arith, none, more, was)

pub unreachable-requires : goal.unreachable-requires
unreachable-requires c =
    c.in-None.ensures.none (search rules) (seen_there c.args.id c.self.inside.slots.candidates c.args.self.now.candidates (ap (λ v. v.candidates) c.self.view_is) (open_has c.args.id c.args.self.now.candidates c.requires))

pub returns-clause-count : goal.returns-clause-count
returns-clause-count c =
    count_tied (Some c.args.tb) c.args.id c.in-Some.place c.self.inside.slots.candidates c.set_tb.new.self.candidates c.in-Some.ensures.some c.set_tb.ensures.candidates c.sift_up.new.slots.candidates c.sift_up.ensures.permuted c.self.invariant.0 c.args.self.now.candidates (ap (λ v. v.candidates) c.self.view_is)

pub returns-clause-candidates : goal.returns-clause-candidates
returns-clause-candidates c =
    candidates_tied (Some c.args.tb) c.args.id c.in-Some.place c.self.inside.slots.candidates c.set_tb.new.self.candidates c.in-Some.ensures.some c.set_tb.ensures.candidates c.sift_up.new.slots.candidates c.sift_up.ensures.permuted c.self.invariant.0 c.args.self.now.candidates (ap (λ v. v.candidates) c.self.view_is)
