use Rattle.std.proofs.Common.{refl, codes, map, Ok}
use Rattle.std.specs.List.{enumerate_from, flat_map}
use Rattle.sim_io.proofs.Proved.{writes_front, writes_then}
use Rattle.script_text.specs.Traces.{tap_lines}
use Rattle.script_text.proofs.traces.write_front.Goals as goal

pub returns-in-Ok : goal.returns-in-Ok
returns-in-Ok g c =
    writes_then _ _ _ (Ok tt) _ (codes "trace 1\n") (flat_map tap_lines (enumerate_from 0 (map (λ list. list.items) c.args.lists.now)))
    refl c.in-Ok.ensures c.write_taps.ensures

pub returns-in-Err : goal.returns-in-Err
returns-in-Err g c =
    writes_front _ _ _ _ (codes "trace 1\n") (flat_map tap_lines (enumerate_from 0 (map (λ list. list.items) c.args.lists.now)))
    refl c.in-Err.ensures
