use Rattle.std.proofs.Common.{◌≡◌, ◌⊎◌, ◌∙◌, arith, ◌+◌, ℕ, Option, Some, ap, subst, sym}
use Rattle.std.proofs.Common.{slice_get}
use Rattle.std.specs.Prelude.{◌↔◌}
use Rattle.std.proofs.lemmas.Option.{slice_get-get_or}
use Rattle.spec_rollback.specs.Marking.{IsSeen}
use Rattle.spec_rollback.proofs.Seen.{finds_more, finds_upto, seen_more}
use Rattle.spec_rollback.proofs.marking.mark_holders.Goals as goal

pub loop-place-preserved : goal.loop-place-preserved
loop-place-preserved g c =
    let n = c.loop-place.place in
    let next = c.next_place-place-in-loop-place in
    let up = next.ensures.from in
    let of = g.H.Holder.held in
    let items = c.args.holders.now in
    let here : slice_get items n ≡ Some c.index-holders-place.result =
    slice_get-get_or items n c.index-holders-place.result (omega arith) ∙ ap Some (sym c.index-holders-place.is) in (
      next.ensures.within,
      finds_upto of items _ (n + 1) next.result _ _ _ _ _ _ (omega (arith, up))
          (λ place id from below at.
          next.ensures.passed place id (omega (arith, from)) below at c.args.access.now.task.now)
          (finds_more _ (IsSeen of items n) (λ id. c.held.result ≡ Some id) (IsSeen of items (n + 1)) _ _ _ _ _ _ _ _ _
          c.loop-place.invariant.1 c.mark_held-many.ensures
          (λ id. subst (λ (held : Option ℕ). IsSeen of items (n + 1) id ↔
          (IsSeen of items n id ⊎ (held ≡ Some id))) (sym c.held.ensures)
          (seen_more of items n c.index-holders-place.result here id))),
    )
