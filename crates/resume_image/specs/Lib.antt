-- Contracts mean all of these.
pub mod Pendings
pub mod Saved
pub mod Joined
