-- Commits.
pub mod Domains
pub mod Taken
pub mod Sizes
pub mod Order
pub mod Memory
pub mod Heir
pub mod Turn
pub mod Tasks
pub mod Sound
