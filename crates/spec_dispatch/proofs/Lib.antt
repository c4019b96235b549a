pub mod Dispatched
pub mod Rekeyed
pub mod Placed
pub mod Walked
pub mod Tabled
pub mod Renumbers
pub mod Readied
pub mod Below
