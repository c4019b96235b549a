mod Keeps
mod Places
pub mod Proved
