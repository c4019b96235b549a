-- These serve this crate alone; its contracts mean words of crates below.
pub mod Pulled
pub mod Undone
pub mod Marking
pub mod TakenBack
pub mod Removed
pub mod Lists
