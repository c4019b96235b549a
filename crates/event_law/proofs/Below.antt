-- The proofs of the crates below that the crates above cite.
pub use Rattle.event_def.proofs.Below.serial_machine as serial_machine
pub use Rattle.event_def.proofs.Below.run_law as run_law
pub use Rattle.event_def.proofs.Below.task_law as task_law
pub use Rattle.event_def.proofs.Below.spec_state as spec_state
pub use Rattle.spec_law.proofs as spec_law
