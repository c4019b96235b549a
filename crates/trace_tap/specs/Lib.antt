-- Contracts mean all of these.
pub mod TapValue
pub mod Numbers
pub mod TapValues
