use Rattle.std.proofs.Common.{◌≡◌, rules, sym, ap, subst, ◌∙◌, arith}
use Rattle.std.proofs.lemmas.Option.{get_or_from_slice_get}
use Rattle.std.proofs.lemmas.List.Sorted.{IsPermutation-sym}
use Rattle.commit_arbiter.specs.declared.candidate.Candidate.{Candidate}
use Rattle.commit_arbiter.specs.Indexed.{HasId, without_candidate, one_closed}
use Rattle.commit_arbiter.specs.Slots.{blank_candidate, candidate_at}
use Rattle.commit_arbiter.specs.Heap.{in_rising_order}
use Rattle.commit_arbiter.proofs.Closed.{taken_closed}
use Rattle.commit_arbiter.proofs.Places.{has_place, without_absent}
use Rattle.commit_arbiter.proofs.Ordered.{taken_ids, taken_out, in_rising_order-permutes, has_permuted}
use Rattle.commit_arbiter.proofs.index.Index.remove.Goals as goal

pub invariant_of-self : goal.invariant_of-self
invariant_of-self c =
    let old = c.self.inside.slots.candidates in
    let less = taken_closed (candidate_at old c.in-Some.place) old c.take_out.new.slots.candidates c.take_out.ensures.permuted in
    let one = ap (λ (e : Candidate). one_closed e.key.tb) (get_or_from_slice_get old c.in-Some.place c.get.result.now blank_candidate c.get.ensures) in
    let told = c.one_closed.ensures in
    let was = c.self.invariant.1 in (
      record {
        heap = c.take_out.ensures.heap;
        ids =
            taken_ids (candidate_at old c.in-Some.place) old c.take_out.new.slots.candidates c.take_out.ensures.permuted c.self.invariant.0.ids;
      },
      omega (arith, less, one, told, was),
    )

pub overflow_sub-self : goal.overflow_sub-self
overflow_sub-self c =
    let old = c.self.inside.slots.candidates in
    let less = taken_closed (candidate_at old c.in-Some.place) old c.take_out.new.slots.candidates c.take_out.ensures.permuted in
    let one = ap (λ (e : Candidate). one_closed e.key.tb) (get_or_from_slice_get old c.in-Some.place c.get.result.now blank_candidate c.get.ensures) in
    let told = c.one_closed.ensures in
    let was = c.self.invariant.1 in
    omega (arith, less, one, told, was)

pub returns-in-Some-clause-found : goal.returns-in-Some-clause-found
returns-in-Some-clause-found c =
    let old = c.self.inside.slots.candidates in (
      λ _. subst (λ v. HasId c.args.id v.candidates) c.self.view_is (has_permuted c.args.id old (in_rising_order old) (in_rising_order-permutes old) (has_place c.args.id c.in-Some.place old c.in-Some.ensures.some)),
      λ _. search rules,
    )

pub returns-in-Some-clause-candidates : goal.returns-in-Some-clause-candidates
returns-in-Some-clause-candidates c =
    let old = c.self.inside.slots.candidates in
    let x = candidate_at old c.in-Some.place in
    let is = c.in-Some.ensures.some in
    let mine : x.id ≡ c.args.id = ap (λ e. e.id) (get_or_from_slice_get old c.in-Some.place is.candidate blank_candidate is.there) ∙ is.id_is in
    taken_out x old c.take_out.new.slots.candidates c.take_out.ensures.permuted c.self.invariant.0.ids
    ∙ ap (λ n. without_candidate n (in_rising_order old)) mine
    ∙ ap (λ v. without_candidate c.args.id v.candidates) c.self.view_is

pub returns-in-None-clause-found : goal.returns-in-None-clause-found
returns-in-None-clause-found c =
    let old = c.self.inside.slots.candidates in (
      λ no_way. absurd (cc (no_way)),
      λ has. absurd (c.in-None.ensures.none (search rules) (has_permuted c.args.id (in_rising_order old) old (IsPermutation-sym old (in_rising_order old) (in_rising_order-permutes old)) (subst (λ v. HasId c.args.id v.candidates) (sym c.self.view_is) has))),
    )

pub returns-in-None-clause-candidates : goal.returns-in-None-clause-candidates
returns-in-None-clause-candidates c =
    let old = c.self.inside.slots.candidates in
    sym (without_absent c.args.id c.args.self.now.candidates (λ has. c.in-None.ensures.none (search rules) (has_permuted c.args.id (in_rising_order old) old (IsPermutation-sym old (in_rising_order old) (in_rising_order-permutes old)) (subst (λ v. HasId c.args.id v.candidates) (sym c.self.view_is) has))))
