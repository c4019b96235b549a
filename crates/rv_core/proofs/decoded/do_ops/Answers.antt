use Rattle.std.proofs.Common.{rules, ◌≡◌, ◌+◌, ◌-◌, ◌<◌, length, Some, sym, ap, subst, ◌∙◌, arith}
use Rattle.std.proofs.lemmas.Option.{slice_get-get_or}
use Rattle.rv_table.specs.Exec.{plus}
use Rattle.rv_core.specs.Ops.{OpsLead, point}
use Rattle.rv_core.proofs.Ops.{OpsLead-once}
use Rattle.rv_core.proofs.decoded.do_ops.Goals as goal

pub loop-index-preserved-in-On : goal.loop-index-preserved-in-On
loop-index-preserved-in-On c =
    let ops = c.args.ops.now in
    let index = c.loop-index.index in
    let known = c.loop-index.invariant in
    let inside : index < length ops = omega (arith, known.inside, c.loop-index-test.true) in
    let there = slice_get-get_or ops index c.index-ops-index.result inside ∙ ap Some (sym c.index-ops-index.is) in
    let next : plus index 1 ≡ index + 1 = omega (arith, known.word, c.requires, inside) in
    record {
      run =
          subst
          (λ i. OpsLead c.args.version ops (c.args.limit - (c.loop-index.bound - (index + 1)))
          (point c.args.start c.args.regs.now c.args.stack.now) (point i c.act_whole.new.regs c.act_whole.new.stack))
          next
          (OpsLead-once c.args.version ops _ _ _ (point index c.loop-index.regs c.loop-index.stack) _ known.run
          (c.index-ops-index.result, there, sym c.in-On.ensures.next)
          (omega (arith, known.left, known.within, c.loop-index-test.true)));
      below = omega arith;
      left = omega arith;
      inside = search rules;
      within = search rules;
      word = omega (arith, c.requires, inside);
    }

pub loop-index-preserved : goal.loop-index-preserved
loop-index-preserved c =
    let ops = c.args.ops.now in
    let index = c.loop-index.index in
    let known = c.loop-index.invariant in
    let inside : index < length ops = omega (arith, known.inside, c.loop-index-test.true) in
    let there = slice_get-get_or ops index c.index-ops-index.result inside ∙ ap Some (sym c.index-ops-index.is) in
    record {
      run =
          OpsLead-once c.args.version ops _ _ _ (point index c.loop-index.regs c.loop-index.stack) _ known.run
          (c.index-ops-index.result, there, sym c.in-To.ensures.next)
          (omega (arith, known.left, known.within, c.loop-index-test.true));
      below = omega arith;
      left = omega arith;
      inside = search rules;
      within = search rules;
      word = search rules;
    }
