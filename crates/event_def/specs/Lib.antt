-- Contracts mean all of these.
pub mod Book
pub mod Causes
pub mod Events
pub mod Trace
pub mod Happens
pub mod Comes
pub mod Opening
pub mod Advancing
pub mod Telling
pub mod Closing
pub mod End
-- What the crates above name of the crates below.
pub use Rattle.spec_state.specs.serial_machine as serial_machine
pub use Rattle.spec_state.specs.run_law as run_law
pub use Rattle.spec_state.specs.task_law as task_law
pub use Rattle.spec_state.specs as spec_state
