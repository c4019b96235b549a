pub mod Answering
pub mod Completing
pub mod Counting
pub mod Found
pub mod Twice
pub mod Kept
pub mod Dispatched
pub mod Once
