-- Contracts mean all of these.
pub mod Forcing
pub mod Whereabouts
pub mod Falling
pub mod Laws
-- What the crates above name of the crates below.
pub use Rattle.event_law.specs.serial_machine as serial_machine
pub use Rattle.event_law.specs.run_law as run_law
pub use Rattle.event_law.specs.task_law as task_law
pub use Rattle.event_law.specs.spec_state as spec_state
pub use Rattle.event_law.specs.event_def as event_def
pub use Rattle.event_law.specs.spec_law as spec_law
