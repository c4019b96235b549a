-- Each event keeps a book sound.
pub mod Idle
pub mod Forced
pub mod Room
pub mod Dispatch
pub mod Steps
pub mod Calls
pub mod Events
