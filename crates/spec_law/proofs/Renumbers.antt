-- Renumbering.
pub mod One
pub mod Alike
pub mod Memory
pub mod Order
pub mod Tasks
pub mod Sizes
pub mod Few
pub mod Sound
