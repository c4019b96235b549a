use Rattle.std.proofs.Common.{map, rules}
use Rattle.fractal_sim.specs.Runs.{IsScript}
use Rattle.fractal_sim.proofs.Kept.{play_found_behind, play_writable}
use Rattle.fractal_sim.proofs.playing.play_behind.Goals as goal

pub returns : goal.returns
returns g c =
    let request = c.args.request in
    let image = c.args.image in
    let rest = c.args.rest.now in
    let placers = map g.P.Placer.policy c.args.placers.items in
    let taps = map g.T.Tap.notes c.args.taps.items in
    let script = c.in-Ok.script.items in
    let is : IsScript request rest script = search rules in
    let made = c.play_script-made.result in
    let e = c.play_script-made.ensures in
    let found = c.play_finding.result in
    record {
      found = play_found_behind request image rest placers taps script is made found c.play_finding.ensures
          c.requires.command (search (rules, e.played)) (search (rules, e.left));
      writable = play_writable image request.settings.commits request.settings.budget made found
          c.play_finding.ensures (search (rules, e.left));
    }
