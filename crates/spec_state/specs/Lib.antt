-- Contracts mean all but Picks, which serves this crate alone.
pub mod Settings
pub mod View
pub mod Effects
pub mod StateValue
pub mod Fits
pub mod Children
pub mod Filters
pub mod Stored
pub mod Tasks
pub mod Groups
pub mod Least
pub mod Fronts
pub mod Queries
pub mod Aborts
pub mod Told
pub mod Room
pub mod Numbers
pub mod Changes
pub mod Opening
pub mod Leaving
pub mod Picks
pub mod Pendings
-- What the crates above name of the crates below.
pub use Rattle.task_law.specs.serial_machine as serial_machine
pub use Rattle.task_law.specs.run_law as run_law
pub use Rattle.task_law.specs as task_law
