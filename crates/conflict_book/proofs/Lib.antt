mod Placing
mod Fresh
mod Cores
mod LeftRun
mod FrozenRun
mod Telling
mod Passing
mod Slices
pub mod Leading
mod Nexts
mod Lists
mod Settled
mod Few
pub mod Proved
pub mod Below
