use Rattle.std.proofs.Common.{sym, ◌∙◌, arith}
use Rattle.serial_machine.proofs.Stacks.{drop_next}
use Rattle.serial_machine.proofs.stack.drop_first.Goals as goal

pub loop-done-preserved : goal.loop-done-preserved
loop-done-preserved c = record {
  dropped =
      drop_next c.args.stack.now.items _ c.take_first-empty.result c.loop-done.done (sym c.loop-done.invariant.dropped ∙ c.take_first-empty.ensures.taken);
  len = omega arith;
  spare = c.take_first-empty.ensures.spare ∙ c.loop-done.invariant.spare;
}
