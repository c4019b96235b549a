use Rattle.std.proofs.Common.{map, rules}
use Rattle.fractal_sim.specs.Runs.{IsScript}
use Rattle.fractal_sim.proofs.Kept.{trace_found_behind, trace_writable}
use Rattle.fractal_sim.proofs.playing.trace_behind.Goals as goal

pub returns : goal.returns
returns g c =
    let request = c.args.request in
    let image = c.args.image.now in
    let rest = c.args.rest.now in
    let placers = map g.P.Placer.policy c.args.placers.items in
    let taps = map g.T.Tap.notes c.args.taps.items in
    let script = c.in-Ok.script.items in
    let is : IsScript request rest script = search rules in
    let made = c.trace_script-made.result in
    let e = c.trace_script-made.ensures in
    let found = c.trace_finding.result in
    record {
      found = trace_found_behind request image rest placers taps script is made found c.trace_finding.ensures
          c.requires.command (search (rules, e.traced)) (search (rules, e.left));
      writable = trace_writable made found c.trace_finding.ensures;
    }
