-- Contracts mean all but Replay, which serves this crate alone.
pub mod Check
pub mod Grammar
pub mod Hex
pub mod ReadBack
pub mod Replay
pub mod Report
