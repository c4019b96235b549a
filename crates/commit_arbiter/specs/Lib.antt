-- Contracts mean all but Slots and Heap, which serve this crate alone.
pub mod Least
pub mod Indexed
pub mod Slots
pub mod Heap
