-- Contracts of public calls mean all but Idling, which serves this crate alone.
pub mod Moving
pub mod Idling
