-- Contracts mean it.
pub mod Shape
