use Rattle.std.proofs.Common.{refl, codes, Ok}
use Rattle.std.specs.List.{flat_map, enumerate_from}
use Rattle.sim_io.proofs.Proved.{writes_front, writes_then}
use Rattle.report_text.specs.Report.{entry_line, entry_lines}
use Rattle.report_text.proofs.writing.write_entries.Goals as goal

pub returns-in-Ok : goal.returns-in-Ok
unfolding entry_lines
returns-in-Ok g c =
    writes_then _ _ _ (Ok tt) _ (codes "fractal 1\n") (flat_map entry_line (enumerate_from 1 c.args.journal.now)) refl c.in-Ok.ensures (rw c.as_slice.ensures at c.write_list.ensures)

pub returns-in-Err : goal.returns-in-Err
unfolding entry_lines
returns-in-Err g c =
    writes_front _ _ _ _ (codes "fractal 1\n") (flat_map entry_line (enumerate_from 1 c.args.journal.now)) refl c.in-Err.ensures
