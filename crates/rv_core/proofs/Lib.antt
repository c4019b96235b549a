pub mod Effects
pub mod Runs
pub mod Unreached
pub mod Ops
pub mod Proved
