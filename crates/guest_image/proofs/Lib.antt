pub mod Faults
pub mod HeaderValue
pub mod ReadBack
pub mod WordsBack
pub mod Made
pub mod Proved
pub mod Sizes
