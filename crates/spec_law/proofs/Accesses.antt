-- Loads and stores.
pub mod Runs
pub mod Noted
pub mod Kept
