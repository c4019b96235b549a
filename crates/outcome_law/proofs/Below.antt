-- The proofs of the crates below that the crates above cite.
pub use Rattle.step_script.proofs.Below.run_law as run_law
pub use Rattle.step_script.proofs.Below.spec_law as spec_law
pub use Rattle.step_script.proofs.Below.event_law as event_law
pub use Rattle.step_script.proofs as step_script
