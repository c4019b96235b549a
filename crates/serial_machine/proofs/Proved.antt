-- What the crates above may cite of these proofs.
pub use Rattle.serial_machine.proofs.Kept.{EndHolds, request-sub_fits, HoldsAfter, task_run-holds, task_run-size, task_run-sub_fits}
pub use Rattle.serial_machine.proofs.Naming.{AreNamed-after, AreNamed-opening, all_children, children-fresh, children_for, once-in-first, times-append}
pub use Rattle.serial_machine.proofs.Naming.{times-children, times-without_name, times_in-inner, times_in-sub}
pub use Rattle.serial_machine.proofs.Naming.{times_in-super}
pub use Rattle.serial_machine.proofs.Refused.{least-none, may-why}
pub use Rattle.serial_machine.proofs.Runs.{spent_traps, after_instructions-one_plain, after_instructions-stop}
pub use Rattle.serial_machine.proofs.Stacks.{without_name-none}
pub use Rattle.serial_machine.proofs.Turns.{is_pending-inner, IsStack-after, IsStack-inner}
pub use Rattle.serial_machine.proofs.Turns.{after_instructions-task_at_start, turn-done}
pub use Rattle.serial_machine.proofs.WholeRuns.{Runs-more}
