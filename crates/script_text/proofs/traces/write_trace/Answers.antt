use Rattle.std.proofs.Common.{refl, codes, map, ◌++◌, Ok}
use Rattle.std.specs.List.{enumerate_from, flat_map}
use Rattle.sim_io.proofs.Proved.{writes_front, writes_then}
use Rattle.script_text.specs.Traces.{tap_lines, trace_text}
use Rattle.script_text.proofs.traces.write_trace.Goals as goal

pub returns-in-Ok : goal.returns-in-Ok
unfolding trace_text
returns-in-Ok g c =
    writes_then _ _ _ (Ok tt) _
    (codes "trace 1\n" ++ flat_map tap_lines (enumerate_from 0 (map (λ list. list.items) c.args.lists.now))) (codes "end trace\n")
    refl c.in-Ok.ensures c.write_all.ensures

pub returns-in-Err : goal.returns-in-Err
unfolding trace_text
returns-in-Err g c =
    writes_front _ _ _ _
    (codes "trace 1\n" ++ flat_map tap_lines (enumerate_from 0 (map (λ list. list.items) c.args.lists.now))) (codes "end trace\n")
    refl c.in-Err.ensures
