-- Contracts mean all of these.
pub mod Cascade
pub mod Growth
