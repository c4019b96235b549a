pub mod Written
pub mod Quiet
pub mod Below
