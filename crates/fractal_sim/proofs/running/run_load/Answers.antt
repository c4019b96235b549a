use Rattle.std.proofs.Common.{◌≡◌, map, rules}
use Rattle.load_gen.specs.Generated.{load_image}
use Rattle.fractal_sim.proofs.Kept.{load_so, load_writable}
use Rattle.fractal_sim.proofs.running.run_load.Goals as goal

pub returns : goal.returns
returns g c =
    let load = c.args.load in
    let settings = c.args.settings in
    let placers = map g.P.Placer.policy c.args.placers.items in
    let taps = map g.T.Tap.notes c.args.taps.items in
    let image = c.in-Ok.image in
    let made = c.run_image-made.result in
    let found = c.load_finding.result in
    let is : image ≡ load_image load.load load.seed load.size = search rules in
    record {
      found = load_so load image settings placers taps made found c.load_finding.ensures is
          (search (rules, c.run_image-made.ensures.made));
      writable = load_writable load image settings.workers made found c.load_finding.ensures
          (search (rules, c.run_image-made.ensures.window));
    }
