-- Contracts mean all of these.
pub mod Programs
pub mod Walk
pub mod Nest
pub mod Generated
