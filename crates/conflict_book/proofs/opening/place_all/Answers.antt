use Rattle.std.proofs.Common.{rules, arith}
use Rattle.conflict_book.proofs.Placing.{leads_more}
use Rattle.conflict_book.proofs.opening.place_all.Goals as goal

pub loop-index-preserved : goal.loop-index-preserved
loop-index-preserved g c = record {
  fresh = c.in_ok-place.ensures.fresh;
  leads =
      λ taps final rest. leads_more c.args.kind c.args.tasks.now c.loop-index.index _ _ _ _ (omega arith) (search rules) (c.loop-index.invariant.leads taps) (c.in_ok-place.ensures.places taps) final rest;
}
