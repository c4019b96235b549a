use Rattle.resume_image.proofs.Remains.{left_deep, left_sized}
use Rattle.resume_image.proofs.saving.frozen_fits.Goals as goal

pub returns-clause-memory : goal.returns-clause-memory
returns-clause-memory c =
    left_sized c.args.image.now c.requires.0 c.args.frozen.now.closed.journal c.args.frozen.now.closed.memory c.args.frozen.now.closed.output
    c.args.frozen.now.pending c.tasks.ensures.limits c.requires.1

pub returns-clause-deep : goal.returns-clause-deep
returns-clause-deep c =
    left_deep c.args.image.now c.requires.0 c.args.frozen.now.closed.journal c.args.frozen.now.closed.memory c.args.frozen.now.closed.output
    c.args.frozen.now.pending c.requires.1
