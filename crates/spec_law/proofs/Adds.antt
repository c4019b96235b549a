-- A task that comes to be.
pub mod One
pub mod Order
pub mod Sizes
pub mod Heir
