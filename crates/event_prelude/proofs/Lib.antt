pub mod Standing
pub mod Victims
pub mod Proved
pub mod Below
