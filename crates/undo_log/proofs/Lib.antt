pub mod Numbers
pub mod Writes
pub mod Restores
pub mod Proved
