-- The proofs of the crates below that the crates above cite.
pub use Rattle.step_script.proofs.Below.spec_law as spec_law
pub use Rattle.step_script.proofs.Below.event_law as event_law
pub use Rattle.step_script.proofs.Below.event_basis as event_basis
pub use Rattle.step_script.proofs as step_script
