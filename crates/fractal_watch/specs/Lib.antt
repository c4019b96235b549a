-- Contracts of public calls mean all but Finding, Closing and Telling, which serve this crate alone.
pub mod Words
pub mod Given
pub mod Texts
pub mod Watched
pub mod Answers
pub mod Complete
pub mod Program
pub mod Finding
pub mod Closing
pub mod Telling
