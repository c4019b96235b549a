pub mod Stopping
pub mod Sums
pub mod Ranged
pub mod Joined
pub mod Told
pub mod Untouched
pub mod Below
