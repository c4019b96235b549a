-- What is taken back.
pub mod Pulled
pub mod Cascades
pub mod Taken
pub mod Kept
pub mod KeptTasks
pub mod Spared
pub mod KeptSizes
pub mod KeptHeir
pub mod KeptSound
pub mod Undone
