use Rattle.std.proofs.Common.{length, sym, ap, ◌∙◌}
use Rattle.std.specs.Ordering.{ordering_then}
use Rattle.std.specs.declared.cmp.Ordering.TheVariants.{Less, Greater}
use Rattle.fractal_vt.specs.Levels.{Open, level_cmp}
use Rattle.fractal_vt.specs.Keys.{last}
use Rattle.fractal_vt.proofs.Walk.{left_ends, right_ends}
use Rattle.fractal_vt.proofs.order.rest_order.Goals as goal

pub returns-in-Less : goal.returns-in-Less
returns-in-Less c =
    let a = c.args.a.now in
    let b = c.args.b.now in
    let y : Open = record { ts = c.outer_level.result.ts; tb = c.outer_level.result.tb } in
    c.then.ensures
    ∙ ap (λ o. ordering_then o Less) c.level_order.ensures
    ∙ ap (λ l. ordering_then (level_cmp (record { ts = l.ts; tb = l.tb }) y) Less) c.last.ensures
    ∙ sym (left_ends a.domain b.domain (last a) (last b) y (length c.levels.result.now) (length c.levels-2.result.now) (ap length c.levels.ensures.value) (ap length c.levels-2.ensures.value) (sym c.cmp.ensures ∙ c.in-Less.is) c.outer_level.ensures)

pub returns-in-Greater : goal.returns-in-Greater
returns-in-Greater c =
    let a = c.args.a.now in
    let b = c.args.b.now in
    let x : Open = record { ts = c.outer_level-in-Greater.result.ts; tb = c.outer_level-in-Greater.result.tb } in
    c.then-in-Greater.ensures
    ∙ ap (λ o. ordering_then o Greater) c.level_order-in-Greater.ensures
    ∙ ap (λ l. ordering_then (level_cmp x (record { ts = l.ts; tb = l.tb })) Greater) c.last-in-Greater.ensures
    ∙ sym (right_ends a.domain b.domain (last a) (last b) x (length c.levels.result.now) (length c.levels-2.result.now) (ap length c.levels.ensures.value) (ap length c.levels-2.ensures.value) (sym c.cmp.ensures ∙ c.in-Greater.is) c.outer_level-in-Greater.ensures)
