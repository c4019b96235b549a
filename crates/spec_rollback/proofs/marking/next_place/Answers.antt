use Rattle.std.proofs.Common.{◌∙◌, arith, Some, ap, sym, subst, Option, ℕ, None, slice_index_or}
use Rattle.std.specs.Prelude.{IfSome, IsSome}
use Rattle.std.proofs.lemmas.Option.{slice_get-get_or}
use Rattle.spec_rollback.proofs.Seen.{held_live}
use Rattle.spec_rollback.proofs.marking.next_place.Goals as goal

pub passes_over-requires : goal.passes_over-requires
passes_over-requires g c =
    let item = c.index-holders-place in
    subst (λ (held : Option ℕ). IfSome held (λ id. IsSome (slice_index_or c.args.tasks.now.slots id None)))
    (sym c.held.ensures)
    (held_live g.H.Holder.held c.args.holders.now c.args.tasks.now.slots c.loop-place.place item.result c.requires.live
    (omega arith)
    (slice_get-get_or c.args.holders.now c.loop-place.place item.result (omega arith) ∙ ap Some (sym item.is)))
