pub mod Counts
pub mod Listed
pub mod Serial
pub mod Proved
