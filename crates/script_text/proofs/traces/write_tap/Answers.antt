use Rattle.std.proofs.Common.{refl, Ok}
use Rattle.std.specs.List.{flat_map}
use Rattle.sim_io.proofs.Proved.{writes_front, writes_then}
use Rattle.script_text.specs.Traces.{number_line, tap_line, tap_lines}
use Rattle.script_text.proofs.traces.write_tap.Goals as goal

pub returns-in-Ok : goal.returns-in-Ok
unfolding tap_lines
returns-in-Ok g c =
    writes_then _ _ _ (Ok tt) _ (tap_line (c.args.tap, c.args.list.now)) (flat_map number_line c.args.list.now) refl c.in-Ok.ensures
    c.write_numbers.ensures

pub returns-in-Err : goal.returns-in-Err
unfolding tap_lines
returns-in-Err g c =
    writes_front _ _ _ _ (tap_line (c.args.tap, c.args.list.now)) (flat_map number_line c.args.list.now) refl c.in-Err.ensures
