use Rattle.std.proofs.Common.{rules, ◌≡◌, ◌<◌, [], length, set, sym, ap, ◌∙◌, arith, slice_index_or}
use Rattle.std.proofs.lemmas.List.{length-map, map-set, get_or-map}
use Rattle.spill_store.specs.SpilledTasks.{Spilled, BlockValue, after_push}
use Rattle.spill_store.specs.Fronts.{lists_in}
use Rattle.spill_store.proofs.Tiles.{pushed_but}
use Rattle.spill_store.proofs.blocks.Blocks.push.Goals as goal

pub front_of_two-self-inside-requires-clause-front : goal.front_of_two-self-inside-requires-clause-front
front_of_two-self-inside-requires-clause-front c =
    let blocks = c.self.inside.blocks.items in
    let task : Spilled = record { desc = c.args.desc.now; domain = c.args.domain.now } in
    let inside : c.args.tile < length blocks = search rules in
    let own = get_or-map (λ (b : BlockValue). b.tasks) blocks c.args.tile c.index_mut.result.now [] inside in
    let long = length-map blocks (λ (b : BlockValue). b.tasks) in
    let now : lists_in c.as_slice.result.now ≡ set (lists_in blocks) c.args.tile (after_push (slice_index_or (lists_in blocks) c.args.tile []) task) =
    ap lists_in c.as_slice.ensures.value
    ∙ map-set (λ (b : BlockValue). b.tasks) blocks c.args.tile c.push.new.self
    ∙ ap (set (lists_in blocks) c.args.tile) (c.push.ensures.tasks ∙ ap (λ (b : BlockValue). after_push b.tasks task) c.index_mut.ensures.value ∙ ap (λ es. after_push es task) (sym own)) in
    pushed_but (lists_in blocks) (lists_in c.as_slice.result.now) c.self.inside.front c.args.tile task now (omega (arith, long, inside)) c.self.invariant
