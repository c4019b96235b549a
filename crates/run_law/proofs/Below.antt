-- The proofs of the crates below that the crates above cite.
pub use Rattle.serial_machine.proofs as serial_machine
