use Rattle.std.proofs.Common.{set, ap, sym, ◌∙◌}
use Rattle.std.proofs.lemmas.List.Edits.{map_over_more}
use Rattle.spill_store.specs.SpilledTasks.{renumbered_spilled}
use Rattle.spill_store.proofs.shelf.renumber_all.Goals as goal

pub loop-one-preserved : goal.loop-one-preserved
loop-one-preserved c =
    let l = c.loop-one in
    let f = renumbered_spilled c.args.table.now in
    ap (set l.kept l.one-index) (c.renumber.ensures ∙ ap f (sym c.one-item.is))
    ∙ map_over_more f c.args.kept.now l.kept l.one-index c.one-item.result c.loop-one-test.true l.invariant c.one-item.is
