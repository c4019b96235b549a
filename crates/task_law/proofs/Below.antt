-- The proofs of the crates below that the crates above cite.
pub use Rattle.run_law.proofs.Below.serial_machine as serial_machine
pub use Rattle.run_law.proofs as run_law
