-- Contracts mean all of these.
pub mod Policy
pub mod Policies
pub mod Serving
