pub mod Kept
pub mod Asking
pub mod Accessed
pub mod Enqueued
pub mod Finished
pub mod Found
