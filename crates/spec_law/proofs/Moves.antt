-- Coalescing and splitting.
pub mod Moving
pub mod MovingOrder
pub mod MovingSound
pub mod CoalesceSound
pub mod MovingHeir
pub mod MovingMemory
pub mod MovingTasks
pub mod MovingSizes
pub mod MovingBags
pub mod Added
pub mod CoalesceOne
pub mod CoalesceBags
pub mod CoalesceMoves
pub mod CoalesceSizes
pub mod SplitMoves
pub mod SplitSizes
pub mod SplitSound
