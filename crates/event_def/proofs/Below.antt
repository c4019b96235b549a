-- The proofs of the crates below that the crates above cite.
pub use Rattle.spec_state.proofs.Below.serial_machine as serial_machine
pub use Rattle.spec_state.proofs.Below.run_law as run_law
pub use Rattle.spec_state.proofs.Below.task_law as task_law
pub use Rattle.spec_state.proofs as spec_state
