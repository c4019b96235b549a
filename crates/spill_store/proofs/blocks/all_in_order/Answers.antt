use Rattle.std.proofs.Common.{rules, sym, subst, ap, ◌∙◌, [], slice_index_or, inl, inr, arith}
use Rattle.std.proofs.lemmas.Bool.{cases_eq}
use Rattle.fractal_vt.specs.Sorted.{IsInOrder}
use Rattle.spill_store.specs.SpilledTasks.{by_key}
use Rattle.spill_store.specs.Fronts.{lists_in}
use Rattle.spill_store.proofs.Walked.{tasks_at}
use Rattle.spill_store.proofs.blocks.all_in_order.Goals as goal

pub loop-tile-preserved : goal.loop-tile-preserved
loop-tile-preserved c k below =
    let blocks = c.args.blocks.now in
    let l = c.loop-tile in
    let own = tasks_at blocks l.tile c.index-blocks-tile.result (search rules) (search rules) in
    elim (cases_eq k l.tile) [
      | inl same ↦ subst (λ list. IsInOrder by_key list) (sym (ap (λ n. slice_index_or (lists_in blocks) n []) same ∙ own)) (search rules)
      | inr other ↦ l.invariant k (omega (arith, below, other))
    ]
