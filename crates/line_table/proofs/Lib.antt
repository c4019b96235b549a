pub mod Bits
pub mod Pairs
pub mod Shared
pub mod Signatures
pub mod Hashes
pub mod Lined
pub mod Marked
pub mod Proved
