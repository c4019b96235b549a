use Rattle.std.proofs.Common.{◌≡◌, ◌≤◌, take, length}
use Rattle.run_law.specs.serial_machine.Run.{IsRun}
use Rattle.report_text.proofs.checking.replay.Given as goal

abbrev pub invariant-loop-index : goal.invariant-loop-index
invariant-loop-index l = record {
  run : IsRun l.image l.budget (take l.index l.journal) l.serial.state;
  kept : l.serial.budget ≡ l.budget;
  count : l.serial.state.count ≡ l.index;
  size : length l.serial.state.memory ≡ l.image.data_size;
  within : l.index ≤ l.commits;
}
