-- Contracts mean all of these.
pub mod Accesses
pub mod ByteChain
pub mod Tasks
pub mod Chain
pub mod Events
pub mod Notes
pub mod Laws
