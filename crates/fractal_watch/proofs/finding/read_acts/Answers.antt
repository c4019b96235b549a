use Rattle.fractal_watch.proofs.Found.{acts_below}
use Rattle.fractal_watch.proofs.finding.read_acts.Goals as goal

pub returns-in-Steps-clause-few : goal.returns-in-Steps-clause-few
returns-in-Steps-clause-few c =
    let settings = c.args.asking.now.request.settings in
    acts_below c.read_script.result (λ acts. acts.items) c.args.behind.now settings.tiles settings.cores c.requires
    c.read_script.ensures.acts
