-- Contracts mean all of these.
pub mod Fault
pub mod Fetch
pub mod Numbers
pub mod ImageValue
pub mod Limits
pub mod Reading
pub mod Writing
