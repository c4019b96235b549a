-- Contracts mean both.
pub mod Asking
pub mod Telling
