-- Contracts mean all but Ops, which serves this crate alone.
pub mod Next
pub mod Memory
pub mod Legs
pub mod LegValue
pub mod Stackless
pub mod Ops
