use Rattle.std.proofs.Common.{map, rules}
use Rattle.fractal_sim.proofs.Found.{saved_behind}
use Rattle.fractal_sim.proofs.Kept.{run_found_behind, run_writable}
use Rattle.fractal_sim.proofs.deciding.find_behind.Goals as goal

pub returns-in-Check-clause-found : goal.returns-in-Check-clause-found
returns-in-Check-clause-found g c = c.check_report.ensures.found _ _

pub returns-in-Save-clause-found : goal.returns-in-Save-clause-found
returns-in-Save-clause-found g c =
    let placers = map g.P.Placer.policy c.args.placers.items in
    let taps = map g.T.Tap.notes c.args.taps.items in
    saved_behind c.args.request c.args.image c.args.rest.now placers taps c.save_image.result (search rules)
    c.save_image.ensures.found

pub returns-in-Run : goal.returns-in-Run
returns-in-Run g c =
    let request = c.args.request in
    let image = c.args.image in
    let placers = map g.P.Placer.policy c.args.placers.items in
    let taps = map g.T.Tap.notes c.args.taps.items in
    let made = c.run_image-made.result in
    let found = c.run_finding.result in
    record {
      found = run_found_behind request image c.args.rest.now placers taps made found c.run_finding.ensures
          (search rules) (search (rules, c.run_image-made.ensures.made));
      writable = run_writable image request.settings.workers made found c.run_finding.ensures
          (search (rules, c.run_image-made.ensures.window));
    }
