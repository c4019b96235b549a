-- Contracts mean all but Finding and Deciding, which serve this crate alone.
pub mod Given
pub mod Runs
pub mod Checks
pub mod Texts
pub mod Answers
pub mod Complete
pub mod Program
pub mod Finding
pub mod Deciding
pub mod Twice
