use Rattle.std.proofs.Common.{rules, arith, ◌≡◌, false, not, refl, slice_index_or}
use Rattle.std.proofs.lemmas.Fn.{filter_same}
use Rattle.tile_queues.specs.Queue.{unmarked_ids}
use Rattle.tile_queues.proofs.Ids.{AreDistinct-unmarked}
use Rattle.tile_queues.proofs.queue.Queue.take_marked.Goals as goal

pub invariant_of-self : goal.invariant_of-self
invariant_of-self g c =
    let left : c.retain.new.self.items ≡ unmarked_ids c.args.marks.now c.self.inside.ids.items =
    filter_same _ (λ id. not (slice_index_or c.args.marks.now id false)) _ (λ x b f' k. search rules) _ _ c.retain.ensures.filtered in
    record {
      some = c.self.invariant.some;
      distinct = rw left (AreDistinct-unmarked _ _ c.self.invariant.distinct);
      bounded = omega (arith, c.retain.ensures.bound, c.self.invariant.bounded);
      spare = search rules;
    }

pub returns : goal.returns
returns g c =
    let left : c.retain.new.self.items ≡ unmarked_ids c.args.marks.now c.self.inside.ids.items =
    filter_same _ (λ id. not (slice_index_or c.args.marks.now id false)) _ (λ x b f' k. search rules) _ _ c.retain.ensures.filtered in
    rw (← c.self.view_is, left) refl
