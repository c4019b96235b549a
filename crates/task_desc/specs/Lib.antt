-- Contracts mean all of these.
pub mod Calls
pub mod Record
