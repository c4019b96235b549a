use Rattle.std.proofs.Common.{map, rules}
use Rattle.fractal_sim.proofs.Kept.{made_is_saved, made_is_writable, made_pends}
use Rattle.fractal_sim.proofs.saving.save_image.Goals as goal

pub save_finding-requires : goal.save_finding-requires
save_finding-requires g c =
    let e = c.run_to_save-made.ensures in
    made_pends c.args.image c.args.settings.budget c.run_to_save-made.result (search (rules, e.pending))

pub returns : goal.returns
returns g c =
    let image = c.args.image in
    let settings = c.args.settings in
    let placers = map g.P.Placer.policy c.args.placers.items in
    let taps = map g.T.Tap.notes c.args.taps.items in
    let e = c.run_to_save-made.ensures in
    let made = c.run_to_save-made.result in
    let found = c.save_finding.result in
    record {
      found = made_is_saved image settings placers taps made found (search (rules, e.run)) (search (rules, e.pending))
          c.save_finding.ensures;
      writable = made_is_writable image settings placers taps made found (search (rules, e.run))
          c.save_finding.ensures;
    }
