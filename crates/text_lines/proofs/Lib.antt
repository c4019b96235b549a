pub mod Breaks
pub mod Cuts
pub mod Numbers
pub mod Proved
pub mod Decimals
