use Rattle.std.proofs.Common.{◌≡◌, length}
use Rattle.serial_machine.specs.Run.{IsRun}
use Rattle.serial_machine.proofs.whole_run.take_turns.Given as goal

abbrev pub invariant-loop : goal.invariant-loop
invariant-loop l = record {
  run : IsRun l.image l.fn.serial.budget l.journal.items l.serial.state;
  kept : l.serial.budget ≡ l.fn.serial.budget;
  count : l.serial.state.count ≡ l.counter;
  long : length l.journal.items ≡ l.counter;
}
