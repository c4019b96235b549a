-- Contracts mean all of these.
pub mod Number
pub mod Undo
