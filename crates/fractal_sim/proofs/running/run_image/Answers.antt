use Rattle.std.proofs.Common.{map, rules}
use Rattle.fractal_sim.proofs.Kept.{made_has_window, made_so}
use Rattle.fractal_sim.proofs.running.run_image.Goals as goal

pub returns : goal.returns
returns g c =
    let image = c.args.image.now in
    let settings = c.args.settings in
    let placers = map g.P.Placer.policy c.args.placers.items in
    let taps = map g.T.Tap.notes c.args.taps.items in
    let made = c.run.result in
    record {
      made = made_so image settings placers taps made (search (rules, c.run.ensures));
      window = made_has_window image settings placers taps made (search (rules, c.run.ensures));
    }
