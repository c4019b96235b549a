-- The opening is sound.
pub mod Rooted
pub mod Untouched
pub mod Opened
pub mod Queued
pub mod Sized
pub mod Tiles
pub mod Sizes
pub mod Named
pub mod Started
