-- The proofs of the crates below that the crates above cite.
pub use Rattle.spec_state.proofs.Below.run_law as run_law
