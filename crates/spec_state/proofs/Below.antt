-- The proofs of the crates below that the crates above cite.
pub use Rattle.task_law.proofs.Below.serial_machine as serial_machine
pub use Rattle.task_law.proofs.Below.run_law as run_law
pub use Rattle.task_law.proofs as task_law
