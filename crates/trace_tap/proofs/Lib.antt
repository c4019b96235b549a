pub mod Told
mod Fives
