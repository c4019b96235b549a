use Rattle.std.proofs.Common.{rules, ℕ, ◌<◌, ◌∙◌, [], length, sym, ap, subst, slice_index_or, arith}
use Rattle.std.proofs.lemmas.List.{length-map}
use Rattle.fractal_vt.specs.Sorted.{IsInOrder}
use Rattle.spill_store.specs.SpilledTasks.{BlockValue, by_key, first_key}
use Rattle.spill_store.specs.Fronts.{lists_in, IsFirstOfAll}
use Rattle.spill_store.proofs.Tiles.{first_of_all}
use Rattle.spill_store.proofs.Walked.{tasks_at}
use Rattle.spill_store.proofs.blocks.Blocks.front.Goals as goal

pub returns-clause-some : goal.returns-clause-some
returns-clause-some c =
    let blocks = c.self.inside.blocks.items in
    let long = length-map blocks (λ (b : BlockValue). b.tasks) in
    let order = subst (λ bs. (tile : ℕ) → tile < length bs → IsInOrder by_key (slice_index_or (lists_in bs) tile [])) c.as_slice.ensures.value c.all_in_order.ensures in
    let own = tasks_at blocks c.self.inside.front c.index.result.now (omega (arith, long, c.self.invariant.within)) (search rules) in
    subst (λ v. IsFirstOfAll (lists_in v.items) c.self.inside.front c.in_ok-key.key.now) c.self.view_is
    (first_of_all (lists_in blocks) c.self.inside.front c.self.invariant (λ tile inside. order tile (omega (arith, long, inside))) c.in_ok-key.key.now
    (ap first_key own ∙ sym c.in_ok-key.ensures.first))
