use Rattle.std.proofs.Common.{rules, ◌∙◌}
use Rattle.std.proofs.lemmas.List.Sorted.{IsPermutation-trans}
use Rattle.watch_play.proofs.Rounds.{shuffle_step}
use Rattle.watch_play.proofs.lockstep.shuffle.Goals as goal

pub loop-done-preserved : goal.loop-done-preserved
loop-done-preserved c = record {
  order = shuffle_step c.loop-done.done _ c.loop-done.drawn c.next_draw-drawn.result c.loop-done.acts c.swap.new.self _
      (search rules) c.loop-done.invariant.order c.next_draw-drawn.ensures c.swap.ensures.after (search rules)
      c.swap.ensures.len;
  length_is = c.swap.ensures.len ∙ c.loop-done.invariant.length_is;
  permuted = IsPermutation-trans _ _ _ c.loop-done.invariant.permuted c.swap.ensures.permutation;
}
