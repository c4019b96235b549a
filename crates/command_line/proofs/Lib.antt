pub mod Digits
pub mod OneWord
pub mod Walks
