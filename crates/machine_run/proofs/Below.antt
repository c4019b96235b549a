-- The proofs of the crates below that the crates above cite.
pub use Rattle.outcome_law.proofs.Below.step_script as step_script
pub use Rattle.outcome_law.proofs as outcome_law
