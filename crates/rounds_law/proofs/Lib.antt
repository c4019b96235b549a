pub mod Advances
pub mod Commits
pub mod Heirs
pub mod Midway
pub mod Nearer
pub mod Orders
pub mod Owed
pub mod Starving
