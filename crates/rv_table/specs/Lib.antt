-- Contracts mean all of these.
pub mod Regs
pub mod Fields
pub mod Table
pub mod Exec
pub mod Valid
