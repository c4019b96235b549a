-- Contracts mean all of these.
pub mod Tasks
pub mod Ordered
pub mod Events
pub mod Innermost
pub mod Renumber
pub mod Heir
pub mod Opening
pub mod Laws
