-- Contracts mean all but Tournament and Slots, which serve this crate alone.
pub mod Pending
pub mod Tournament
pub mod Slots
