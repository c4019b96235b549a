pub mod Ids
pub mod Proved
pub mod Places
