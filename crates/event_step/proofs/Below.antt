-- The proofs of the crates below that the crates above cite.
pub use Rattle.event_prelude.proofs.Below.serial_machine as serial_machine
pub use Rattle.event_prelude.proofs.Below.run_law as run_law
pub use Rattle.event_prelude.proofs.Below.task_law as task_law
pub use Rattle.event_prelude.proofs.Below.spec_state as spec_state
pub use Rattle.event_prelude.proofs.Below.spec_law as spec_law
pub use Rattle.event_prelude.proofs.Below.event_law as event_law
pub use Rattle.event_prelude.proofs.Below.event_basis as event_basis
