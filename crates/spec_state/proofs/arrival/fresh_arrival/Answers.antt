use Rattle.std.proofs.Common.{rules, ◌<◌, [], ap, length, arith}
use Rattle.std.proofs.lemmas.List.{length-map}
use Rattle.tile_queues.specs.Queue.{QueueValue}
use Rattle.spec_state.proofs.Joined.{ids_at}
use Rattle.spec_state.proofs.Arriving.{next_tile, all_early, none_yet}
use Rattle.spec_state.proofs.arrival.fresh_arrival.Goals as goal

pub loop-tile-init : goal.loop-tile-init
loop-tile-init c = (c.requires.indexed, none_yet _ _ _, search rules, search rules, search rules)

pub loop-tile-preserved : goal.loop-tile-preserved
loop-tile-preserved c =
    let nothing : QueueValue = record { capacity = 0; ids = [] } in
    let within : c.loop-tile.tile < length c.args.queues.now = search rules in
    let list = ids_at c.args.queues.now c.loop-tile.tile nothing within in
    let long = ap length list in
    let short = c.requires.short c.loop-tile.tile nothing within in (
      c.renumber_queue.ensures.indexed,
      next_tile _ _ _ _ c.args.longest c.args.longest c.loop-tile.tile c.requires.theirs c.loop-tile.invariant.1 c.renumber_queue.ensures.below c.renumber_queue.ensures.others (omega arith) (omega (arith, long, short)),
      search rules,
      search rules,
      search rules,
    )

pub returns-clause-indexed : goal.returns-clause-indexed
returns-clause-indexed c =
    let many = length-map c.args.queues.now (λ (q : QueueValue). q.ids) in
    all_early _ _ _ _ _ c.loop-tile.tile _ c.loop-tile.invariant.0 c.loop-tile.invariant.1 (omega (arith, many, c.loop-tile-test.false))
