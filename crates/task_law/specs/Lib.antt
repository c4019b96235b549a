-- Contracts mean all of these.
pub mod Tasks
pub mod Sound
pub mod Moves
pub mod Grows
pub mod Advance
pub mod Commit
pub mod Domains
pub mod Logged
pub mod Turns
pub mod Room
-- What the crates above name of the crates below.
pub use Rattle.run_law.specs.serial_machine as serial_machine
pub use Rattle.run_law.specs as run_law
