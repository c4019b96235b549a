-- Steps of one running task.
pub mod One
pub mod Heir
pub mod Tasks
pub mod Sizes
pub mod Runs
pub mod Sound
pub mod Lists
pub mod Ends
pub mod Laws
