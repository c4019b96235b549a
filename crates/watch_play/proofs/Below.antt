-- The proofs of the crates below that the crates above cite.
pub use Rattle.machine_run.proofs as machine_run
