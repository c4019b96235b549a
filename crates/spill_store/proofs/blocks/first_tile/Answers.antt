use Rattle.std.proofs.Common.{◌+◌, sym, subst, ◌∙◌, arith}
use Rattle.spill_store.specs.Fronts.{lists_in}
use Rattle.spill_store.proofs.Tiles.{IsBest, best_none, best_over, best_stays}
use Rattle.spill_store.proofs.blocks.first_tile.Goals.{then-comes_first, else-comes_first}
use Rattle.spill_store.proofs.blocks.first_tile.Goals as goal

pub loop-tile-init : goal.loop-tile-init
loop-tile-init c = record { inside = omega arith; best = best_none (lists_in c.args.blocks.now) }

pub loop-tile-preserved : goal.loop-tile-preserved
loop-tile-preserved c =
    let lists = lists_in c.args.blocks.now in
    let l = c.loop-tile in
    elim c.if-comes_first.branch [
      | then-comes_first w ↦ record {
        inside = omega (arith, w.best-is);
        best =
            subst (IsBest lists (l.tile + 1)) (sym w.best-is) (best_over lists l.tile l.best l.invariant.best (sym c.comes_first.ensures ∙ w.if-comes_first.true));
      }
      | else-comes_first w ↦ record {
        inside = omega (arith, w.best-is, l.invariant.inside);
        best =
            subst (IsBest lists (l.tile + 1)) (sym w.best-is) (best_stays lists l.tile l.best l.invariant.best (sym c.comes_first.ensures ∙ w.if-comes_first.false));
      }
    ]
