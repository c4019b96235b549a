-- Contracts mean all but Latest, which serves this crate alone.
pub mod Latest
pub mod Spilling
pub mod Committing
