-- Contracts of public calls mean all of these but Playing.
pub mod Courses
pub mod Staged
pub mod Stories
pub mod Texts
pub mod Playing
pub mod Counted
pub mod Telling
pub mod Made
pub mod Replies
pub mod Rounds
pub mod Lockstep
pub mod Leaving
pub mod Twice
-- What the crates above name of the crates below.
pub use Rattle.watch_counts.specs.serial_machine as serial_machine
pub use Rattle.watch_counts.specs.spec_state as spec_state
pub use Rattle.watch_counts.specs.event_def as event_def
pub use Rattle.watch_counts.specs.conflict_book as conflict_book
pub use Rattle.watch_counts.specs.step_script as step_script
pub use Rattle.machine_run.specs as machine_run
pub use Rattle.watch_counts.specs.watch_text as watch_text
