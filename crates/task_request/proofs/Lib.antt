pub mod Asked
pub mod Stepping
pub mod Reaching
pub mod Proved
