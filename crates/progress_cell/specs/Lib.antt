-- Contracts mean all but Rule and Steps, which serve this crate alone.
pub mod Board
pub mod Readings
pub mod Rule
pub mod Steps
