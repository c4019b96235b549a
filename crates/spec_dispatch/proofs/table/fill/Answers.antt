use Rattle.spec_dispatch.proofs.Tabled.{noted}
use Rattle.spec_dispatch.proofs.table.fill.Goals as goal

pub returns-clause-exact : goal.returns-clause-exact
returns-clause-exact c =
    noted c.args.path.now c.args.tasks.now _ _ _ _ c.clear.ensures.items c.note_path.ensures.items c.note_tasks.ensures.items c.arrange.ensures.same
