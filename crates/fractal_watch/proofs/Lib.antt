pub mod Answering
pub mod Coursed
pub mod Ended
pub mod Filtered
pub mod Found
pub mod Told
