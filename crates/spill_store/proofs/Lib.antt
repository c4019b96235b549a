pub mod Drained
mod Emptied
pub mod Pushed
mod Shelves
mod Tiles
mod Walked
