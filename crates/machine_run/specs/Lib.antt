-- Contracts mean all of these.
pub mod Leaving
pub mod Least
pub mod Played
pub mod Stopping
pub mod Halted
pub mod One
-- What the crates above name of the crates below.
pub use Rattle.outcome_law.specs.serial_machine as serial_machine
pub use Rattle.outcome_law.specs.spec_state as spec_state
pub use Rattle.outcome_law.specs.event_def as event_def
pub use Rattle.outcome_law.specs.spec_access as spec_access
pub use Rattle.outcome_law.specs.conflict_book as conflict_book
pub use Rattle.outcome_law.specs.step_script as step_script
pub use Rattle.outcome_law.specs as outcome_law
pub use Rattle.tile_worker.specs as tile_worker
