-- Contracts mean all of these.
pub mod Lines
pub mod Numerals
