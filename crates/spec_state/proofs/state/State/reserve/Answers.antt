use Rattle.std.proofs.Common.{rules, ◌<◌, ◌≤◌, ℕ, ap, sym, subst, ◌∙◌, List, map, length, slice_index_or, arith}
use Rattle.std.proofs.lemmas.List.{get_or-set_same}
use Rattle.spec_state.specs.View.{core_ids}
use Rattle.spill_store.specs.SpilledTasks.{Spilled, BlockValue}
use Rattle.spec_state.specs.StateValue.{StateValue, HasNoLessSpare}
use Rattle.spec_state.specs.Fits.{view_of_parts}
use Rattle.spec_state.proofs.Reserved.{same_lists, spare_at, spare_grows, grown_covers, one_more_fits}
use Rattle.spec_state.proofs.state.State.reserve.Goals as goal

pub returns-clause-view : goal.returns-clause-view
returns-clause-view g c =
    let r = c.reserve.ensures.one in
    ap (λ (blocks : List (List Spilled)). view_of_parts c.self.inside.version c.self.inside.settings c.self.inside.tasks.slots c.self.inside.memory c.self.inside.history.entries c.self.inside.output c.self.inside.next c.self.inside.path
    c.self.inside.queues.items c.self.inside.finished.items (map (λ cores. core_ids cores.items) c.self.inside.cores.items) blocks)
    (ap (map (λ (b : BlockValue). b.tasks)) r.one.new_is ∙ same_lists c.self.inside.blocks.items c.args.tile r.before r.after r.one.before_is r.tasks)
    ∙ ap (λ (v : StateValue). v.view) c.self.view_is

pub returns-clause-covers : goal.returns-clause-covers
returns-clause-covers g c =
    let r = c.reserve.ensures.one in
    let within : c.args.tile < length c.self.inside.blocks.items = search rules in
    let here = sym (ap (λ (bs : List BlockValue). slice_index_or bs c.args.tile r.after) r.one.new_is ∙ get_or-set_same c.self.inside.blocks.items c.args.tile r.after r.after within) in
    let spare = ap (λ (bs : List BlockValue). slice_index_or (map (λ (b : BlockValue). b.spare) bs) c.args.tile 0) r.one.new_is ∙ spare_at c.self.inside.blocks.items c.args.tile r.after within in
    let most = c.in_ok-reserve.ensures.spare r.after here in
    let log = grown_covers c.in_ok-log.log c.next_access-accesses.result c.self.inside.buffers.log c.in_ok-log.ensures.none c.in_ok-log.ensures.some in
    let spawns = grown_covers c.in_ok-spawns.spawns c.next_child-children.result c.self.inside.buffers.spawns c.in_ok-spawns.ensures.none c.in_ok-spawns.ensures.some in
    record {
      log = one_more_fits c.self.inside.tasks.slots (λ t. t.log) _ _ c.args.task c.next_access-accesses.ensures.some
          (subst (λ (n : ℕ). c.next_access-accesses.result ≤ n) (sym c.cover.ensures.log) log.0);
      child = one_more_fits c.self.inside.tasks.slots (λ t. t.spawns) _ _ c.args.task c.next_child-children.ensures.some
          (subst (λ (n : ℕ). c.next_child-children.result ≤ n) (sym c.cover.ensures.spawns) spawns.0);
      pushes = omega (arith, spare, most);
    }

pub returns-clause-stays : goal.returns-clause-stays
returns-clause-stays g c =
    let r = c.reserve.ensures.one in
    let log = grown_covers c.in_ok-log.log c.next_access-accesses.result c.self.inside.buffers.log c.in_ok-log.ensures.none c.in_ok-log.ensures.some in
    let spawns = grown_covers c.in_ok-spawns.spawns c.next_child-children.result c.self.inside.buffers.spawns c.in_ok-spawns.ensures.none c.in_ok-spawns.ensures.some in
    subst (λ (v : StateValue). HasNoLessSpare v.spare (record {
      log = c.cover.new.self.log;
      spawns = c.cover.new.self.spawns;
      output = c.cover.new.self.output;
      blocks = map (λ (b : BlockValue). b.spare) c.reserve.new.self.items;
    })) c.self.view_is
    (record {
      log = subst (λ (n : ℕ). c.self.inside.buffers.log ≤ n) (sym c.cover.ensures.log) log.1;
      spawns = subst (λ (n : ℕ). c.self.inside.buffers.spawns ≤ n) (sym c.cover.ensures.spawns) spawns.1;
      output = (let same = c.cover.ensures.output in omega (arith, same));
      blocks =
          λ k. subst (λ (bs : List BlockValue). slice_index_or (map (λ (b : BlockValue). b.spare) c.self.inside.blocks.items) k 0 ≤ slice_index_or (map (λ (b : BlockValue). b.spare) bs) k 0) (sym r.one.new_is)
          (spare_grows c.self.inside.blocks.items c.args.tile r.before r.after r.one.before_is r.stays k);
    })
