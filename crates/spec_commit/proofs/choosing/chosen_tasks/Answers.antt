use Rattle.std.proofs.Common.{◌≡◌, ◌+◌, ◌-◌, ℕ, length, Option, option_map, sym, ap, subst, arith}
use Rattle.spec_state.specs.declared.task.TaskId.{TaskId}
use Rattle.spec_state.specs.declared.reserving.TheConstants.{MAX_MOVED}
use Rattle.spec_state.specs.Least.{Precedes}
use Rattle.spec_state.specs.View.{queue_at}
use Rattle.spec_commit.specs.Latest.{AreLatest, MayMove}
use Rattle.spec_commit.proofs.Choices.{item_at, live_at, live_chosen, passed_over, taken, all_looked_at}
use Rattle.spec_commit.proofs.choosing.chosen_tasks.Goals.{then-is_movable, else-is_movable}
use Rattle.spec_commit.proofs.choosing.chosen_tasks.Goals as goal

pub task-requires : goal.task-requires
task-requires g c =
    let ids = c.queue_ids-ids.result.now in
    let place : ℕ = length ids - 1 - c.loop-seen.seen in
    record {
      live = live_at g.N.Naming.image.data_size c.args.state.now.view c.args.tile place _ c.is_stored.ensures
          (item_at c.args.state.now.view c.args.tile ids place c.queue_ids-ids.ensures.ids (omega (arith, c.loop-seen-test.true)));
    }

pub place_for-place-requires-clause-live : goal.place_for-place-requires-clause-live
place_for-place-requires-clause-live g c k other at =
    live_chosen c.args.state.now.view c.args.tile c.loop-seen.seen c.loop-seen.chosen.items c.as_slice.result.now k other c.loop-seen.invariant c.as_slice.ensures.value at

pub loop-seen-preserved : goal.loop-seen-preserved
loop-seen-preserved g c =
    let view = c.args.state.now.view in
    let tile = c.args.tile in
    let heir : Option ℕ = option_map (λ (id : TaskId). id.0) c.heir-heir.result in
    let ids = c.queue_ids-ids.result.now in
    let seen = c.loop-seen.seen in
    let place : ℕ = length ids - 1 - seen in
    let item = item_at view tile ids place c.queue_ids-ids.ensures.ids (omega (arith, c.loop-seen-test.true)) in
    let counted : place + seen + 1 ≡ length ids = omega (arith, c.loop-seen-test.true) in
    let at_place : place + seen + 1 ≡ length (queue_at view tile) = subst (λ xs. place + seen + 1 ≡ length xs) c.queue_ids-ids.ensures.ids counted in
    elim c.if-is_movable.branch [
      | then-is_movable w ↦
          subst (AreLatest (Precedes c.args.state.now.view c.args.tile) (MayMove c.args.state.now.view c.args.tile (c.loop-seen.seen + 1)) MAX_MOVED) (sym (ap (λ v. v.items) w.chosen-is))
          (taken view tile c.queue_ids-ids.ensures.distinct heir c.heir-heir.ensures seen place _ at_place item c.task.result.now c.task.ensures
          c.loop-seen.chosen.items c.loop-seen.invariant (c.is_movable.ensures.0 w.if-is_movable.true) w.place_for-place.result
          w.as_slice.result.now w.as_slice.ensures.value w.place_for-place.ensures.before w.place_for-place.ensures.first w.put_among.new.chosen.items w.put_among.ensures)
      | else-is_movable w ↦
          subst (AreLatest (Precedes c.args.state.now.view c.args.tile) (MayMove c.args.state.now.view c.args.tile (c.loop-seen.seen + 1)) MAX_MOVED) (sym (ap (λ v. v.items) w.chosen-is))
          (passed_over view tile c.queue_ids-ids.ensures.distinct heir c.heir-heir.ensures seen place _ at_place item c.task.result.now c.task.ensures
          c.loop-seen.chosen.items c.loop-seen.invariant (λ moves. (let no = w.if-is_movable.false in let yes = c.is_movable.ensures.1 moves in cc)))
    ]

pub returns : goal.returns
returns g c =
    all_looked_at c.args.state.now.view c.args.tile c.loop-seen.seen c.queue_ids-ids.result.now c.loop-seen.chosen.items c.queue_ids-ids.ensures.ids c.loop-seen-test.false c.loop-seen.invariant
