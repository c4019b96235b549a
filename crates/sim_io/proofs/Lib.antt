pub mod Steps
pub mod Fronts
pub mod Lists
pub mod Proved
