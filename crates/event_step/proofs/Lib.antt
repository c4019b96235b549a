pub mod Stepping
pub mod Accessing
pub mod Ending
pub mod Placing
pub mod Below
