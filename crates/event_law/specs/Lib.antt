-- Contracts mean it.
pub mod Laws
-- What the crates above name of the crates below.
pub use Rattle.event_def.specs.serial_machine as serial_machine
pub use Rattle.event_def.specs.run_law as run_law
pub use Rattle.event_def.specs.task_law as task_law
pub use Rattle.event_def.specs.spec_state as spec_state
pub use Rattle.event_def.specs as event_def
pub use Rattle.spec_law.specs as spec_law
