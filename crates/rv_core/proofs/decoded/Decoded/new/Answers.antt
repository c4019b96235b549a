use Rattle.std.proofs.Common.{rules, arith, sym, subst, ap, ◌∙◌, length, ◌≤◌}
use Rattle.rv_core.specs.Ops.{AreOf, IsOpOf}
use Rattle.rv_core.proofs.Ops.{AreOf-push}
use Rattle.rv_core.proofs.decoded.Decoded.new.Goals as goal

pub loop-index-preserved : goal.loop-index-preserved
loop-index-preserved g c =
    let last = subst (λ i. IsOpOf c.text-text.result.now i c.op_at.result) (sym c.loop-index.invariant.count) c.op_at.ensures in
    record {
      of =
          subst (AreOf c.text-text.result.now) (search rules) (AreOf-push _ c.loop-index.ops.items c.op_at.result c.loop-index.invariant.of last);
      count = search rules;
    }

pub invariant_of-result : goal.invariant_of-result
invariant_of-result g c =
    let short : length c.text-text.result.now ≤ 65536 =
    subst (λ text. length text ≤ 65536) (sym c.text-text.ensures) c.initial-limits.ensures.limits.text in
    let text = c.text-text.ensures ∙ ap (λ image. image.text) c.requires in
    record {
      of = subst (λ text. AreOf text c.loop-index.ops.items) text c.loop-index.invariant.of;
      short =
          subst (λ text. length text ≤ 65536) (ap (λ image. image.text) c.requires) c.initial-limits.ensures.limits.text;
      few = omega (arith, c.loop-index.invariant.count, c.loop-index.auto.index-end, short);
    }
