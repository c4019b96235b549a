use Rattle.std.proofs.Common.{◌≡◌, rules, Some}
use Rattle.fractal_sim.proofs.Kept.{kept_frozen}
use Rattle.fractal_sim.proofs.saving.keep_stopped.Goals as goal

pub returns-in-Some : goal.returns-in-Some
returns-in-Some c =
    let stopped = c.args.stopped in
    let pendings = c.in-Some.pending in
    let is : stopped.pending ≡ Some pendings = search rules in
    kept_frozen c.args.image c.args.settings.workers stopped pendings c.event_count-steps.result c.keep_frozen.result is
    c.event_count-steps.ensures c.keep_frozen.ensures
