use Rattle.std.proofs.Common.{◌∙◌}
use Rattle.serial_machine.proofs.Stacks.{any_bag}
use Rattle.serial_machine.proofs.stack.pending.Goals as goal

pub returns : goal.returns
returns c = c.any_holds.ensures ∙ any_bag c.args.name c.args.stack.now
