use Rattle.std.proofs.Common.{◌∙◌, ◌+◌, ◌*◌, ap, arith}
use Rattle.std.specs.Prelude.{cond, false, slice_index_or, sum_by}
use Rattle.std.specs.List.{range_with_len}
use Rattle.watch_text.specs.spec_state.declared.settings.Settings.{Settings}
use Rattle.watch_counts.specs.Counts.{cores_in, is_trapped, on_core, runs, stalls}
use Rattle.watch_counts.proofs.Ranged.{to_last}
use Rattle.watch_counts.proofs.Sums.{few_more, sum_count_more, sum_more}
use Rattle.watch_counts.proofs.places.on_cores.Goals as goal

pub loop-core-preserved : goal.loop-core-preserved
loop-core-preserved g c =
    let view = c.args.state.now.view in
    let cores = c.args.cores.now in
    let tile = c.loop-tile.tile in
    let core = c.loop-core.core in
    let waits = slice_index_or cores (4 * tile + core) false in
    let old = c.loop-core.counts in
    let before = c.loop-core.invariant in
    let more = c.more_on-counts.ensures in
    let running = more.running ∙ (λ i. old.running + cond (runs waits (c.task_on.ensures i)) 1 0) in
    let stalled = more.stalled ∙ (λ i. old.stalled + cond (stalls waits (c.task_on.ensures i)) 1 0) in
    let trapped = more.trapped ∙ (λ i. old.trapped + cond (is_trapped waits (c.task_on.ensures i)) 1 0) in
    let few_running = few_more (on_core view cores runs tile core) _ _ (4 * tile + core) running before.few_running in
    let few_stalled = few_more (on_core view cores stalls tile core) _ _ (4 * tile + core) stalled before.few_stalled in
    let few_trapped =
    few_more (on_core view cores is_trapped tile core) _ _ (4 * tile + core) trapped before.few_trapped in
    record {
      running = sum_count_more (on_core view cores runs tile)
          (sum_by (cores_in view cores runs) (range_with_len 0 tile)) core _ _ before.running running;
      stalled = sum_count_more (on_core view cores stalls tile)
          (sum_by (cores_in view cores stalls) (range_with_len 0 tile)) core _ _ before.stalled stalled;
      trapped = sum_count_more (on_core view cores is_trapped tile)
          (sum_by (cores_in view cores is_trapped) (range_with_len 0 tile)) core _ _ before.trapped trapped;
      few_running = omega (arith, few_running);
      few_stalled = omega (arith, few_stalled);
      few_trapped = omega (arith, few_trapped);
    }

pub loop-tile-preserved : goal.loop-tile-preserved
loop-tile-preserved g c =
    let view = c.args.state.now.view in
    let cores = c.args.cores.now in
    let tile = c.loop-tile.tile in
    let settings = ap (λ (s : Settings). s.cores) c.settings-in-loop-tile.ensures in
    let last = c.loop-core-test.false in
    let within = c.loop-core.auto.core-end in
    let most = c.has_limits.ensures.valid.cores.1 in
    let all = c.loop-core.invariant in
    let few_running = all.few_running in
    let few_stalled = all.few_stalled in
    let few_trapped = all.few_trapped in
    record {
      running = all.running ∙ to_last view cores runs tile c.loop-core.core (omega (arith, settings, last, within))
          ∙ sum_more (cores_in view cores runs) tile;
      stalled = all.stalled ∙ to_last view cores stalls tile c.loop-core.core (omega (arith, settings, last, within))
          ∙ sum_more (cores_in view cores stalls) tile;
      trapped = all.trapped
          ∙ to_last view cores is_trapped tile c.loop-core.core (omega (arith, settings, last, within))
          ∙ sum_more (cores_in view cores is_trapped) tile;
      few_running = omega (arith, few_running, settings, within, most);
      few_stalled = omega (arith, few_stalled, settings, within, most);
      few_trapped = omega (arith, few_trapped, settings, within, most);
    }
