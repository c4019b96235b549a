use Rattle.std.proofs.Common.{rules, refl, sym, subst}
use Rattle.crossbeam_utils.specs.Seq.{cell_view}
use Rattle.progress_cell.specs.Board.{IsWriter}
use Rattle.progress_cell.specs.Rule.{readings_of}
use Rattle.progress_cell.proofs.Keeps.{stores}
use Rattle.progress_cell.proofs.Places.{last_pushed}
use Rattle.progress_cell.proofs.board.Board.publish.Goals as goal

pub swap_as-requires : goal.swap_as-requires
swap_as-requires g c =
    (search rules, (search rules, (search rules, stores _ (cell_view c.writer.inside.pass) c.args.reading c.writer.invariant.writes (search rules) (search rules))))

pub invariant_of-writer : goal.invariant_of-writer
invariant_of-writer g c =
    subst (λ v. IsWriter v c.args.reading) (sym c.swap_as.ensures.rule) (record {
      writes = refl;
      last_told = sym (last_pushed (readings_of (cell_view c.writer.inside.pass)) c.args.reading);
    })
