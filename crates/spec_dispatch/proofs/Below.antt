-- The proofs of the crates below that the crates above cite.
pub use Rattle.spec_state.proofs as spec_state
