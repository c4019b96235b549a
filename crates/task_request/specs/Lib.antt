-- Contracts mean all of these.
pub mod Requests
pub mod Conditions
pub mod TaskState
pub mod Effects
