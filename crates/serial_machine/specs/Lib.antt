-- Contracts mean all but Stack, which serves this crate alone, and Legs, of which proofs of crates above cite one.
pub mod BagValue
pub mod TaskState
pub mod TaskRun
pub mod State
pub mod Turn
pub mod Names
pub mod Run
pub mod Legs
pub mod Stack
pub mod WholeRun
