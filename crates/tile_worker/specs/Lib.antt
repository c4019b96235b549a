-- Contracts mean all but Holds, Counts, Founds and Rounds, which serve this crate alone.
pub mod Halts
pub mod Holds
pub mod Counts
pub mod Founds
pub mod Rounds
pub mod Grows
pub mod Runs
pub mod Readings
