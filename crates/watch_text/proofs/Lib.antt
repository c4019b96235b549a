mod Ranged
mod Placing
mod Joined
mod Handed
mod Gone
mod Taken
pub mod Below
