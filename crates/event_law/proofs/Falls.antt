-- Each event for the least task but its commit brings it nearer to that, or to the end of the run.
pub mod Heir
pub mod Rest
pub mod Spilled
pub mod Legs
pub mod Dispatch
pub mod Steps
pub mod Enqueue
pub mod Falls
