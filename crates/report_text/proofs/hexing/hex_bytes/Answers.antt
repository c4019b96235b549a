use Rattle.std.proofs.Common.{rules, ◌≡◌, ◌∷◌, Some, ap, ◌∙◌, option_map, ◌++◌}
use Rattle.report_text.specs.Hex.{hex_value, hex_bytes}
use Rattle.report_text.proofs.HexValues.{hex_step}
use Rattle.report_text.proofs.hexing.hex_bytes.Goals as goal

pub pairs-preserved : goal.pairs-preserved
pairs-preserved c =
    let e : c.pairs.rest.now ≡ c.in-Some.a.now ∷ c.in-Some.tail.now = search rules in
    let f : c.in-Some.tail.now ≡ c.in-Some-split_first.b.now ∷ c.in-Some-split_first.after.now = search rules in
    let g : hex_value c.in-Some.a.now ≡ Some c.in-Some-value_of.x = search rules in
    let h : hex_value c.in-Some-split_first.b.now ≡ Some c.in-Some-value_of-2.y = search rules in
    ap (λ fs. option_map (λ r. fs ++ r) (hex_bytes c.in-Some-split_first.after.now)) c.in_ok-push.ensures.items
    ∙ hex_step c.pairs.found.items c.pairs.rest.now c.in-Some.tail.now c.in-Some-split_first.after.now c.in-Some.a.now c.in-Some-split_first.b.now c.in-Some-value_of.x c.in-Some-value_of-2.y e f g h
    ∙ c.pairs.invariant
