-- Contracts mean all of these.
pub mod Alike
pub mod Laws
pub mod Stops
-- What the crates above name of the crates below.
pub use Rattle.step_script.specs.serial_machine as serial_machine
pub use Rattle.step_script.specs.spec_state as spec_state
pub use Rattle.step_script.specs.event_def as event_def
pub use Rattle.step_script.specs.spec_law as spec_law
pub use Rattle.step_script.specs.spec_access as spec_access
pub use Rattle.step_script.specs.conflict_book as conflict_book
pub use Rattle.step_script.specs as step_script
