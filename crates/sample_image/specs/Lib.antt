-- Contracts mean it.
pub mod Samples
