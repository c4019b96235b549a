use Rattle.std.proofs.Common.{rules, ◌≡◌, refl, sym, subst}
use Rattle.progress_cell.specs.Rule.{readings_of, joined_of}
use Rattle.progress_cell.specs.declared.view.PassView.TheVariants.{Writes, Reads}
use Rattle.progress_cell.proofs.Keeps.{leaves, joins, confirms}
use Rattle.progress_cell.proofs.board.Board.join.Goals as goal

pub split_pass-whole-requires : goal.split_pass-whole-requires
split_pass-whole-requires g c = (search rules, (search rules, (search rules, leaves _ _ (search rules))))

pub join_pass-requires : goal.join_pass-requires
join_pass-requires g c =
    let reads =
    subst (λ w. w ≡ Reads (readings_of w)) (sym c.split_pass-whole.ensures.given.1) c.reader.invariant.reads in
    (search rules, (search rules, (search rules, joins _ _ _ _ c.writer.invariant.writes reads)))

pub load_as-requires : goal.load_as-requires
load_as-requires g c =
    let writes = subst (λ v. v ≡ Writes (readings_of v) (joined_of v)) (sym c.join_pass.ensures.1) refl in
    (search rules, (search rules, (search rules, confirms _ _ writes)))
