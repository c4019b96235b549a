-- Dispatches.
pub mod Below
pub mod One
pub mod Order
pub mod Memory
pub mod Tasks
pub mod Sound
pub mod Sizes
pub mod Heir
