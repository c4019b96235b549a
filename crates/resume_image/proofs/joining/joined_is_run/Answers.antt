use Rattle.std.proofs.Common.{subst}
use Rattle.guest_image.specs.ImageValue.{ImageValue}
use Rattle.conflict_book.specs.serial_machine.Run.{IsRun}
use Rattle.resume_image.proofs.Joined.{runs_join}
use Rattle.resume_image.proofs.joining.joined_is_run.Goals as goal

pub returns : goal.returns
returns c second run =
    runs_join c.args.image.now c.tasks.ensures.limits c.args.budget c.args.frozen.now.closed.journal c.args.two.now c.args.frozen.now.closed.memory
    c.args.frozen.now.closed.output c.args.frozen.now.pending c.requires.frozen c.requires.saved.some c.requires.saved.root second
    (subst (λ (image : ImageValue). IsRun image c.args.budget c.args.two.now second) c.requires.saved.saved_is run)
