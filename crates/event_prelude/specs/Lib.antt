-- Contracts mean it.
pub mod Entering
-- What the crates above name of the crates below.
pub use Rattle.event_basis.specs.serial_machine as serial_machine
pub use Rattle.event_basis.specs.run_law as run_law
pub use Rattle.event_basis.specs.task_law as task_law
pub use Rattle.event_basis.specs.spec_state as spec_state
pub use Rattle.event_basis.specs.event_def as event_def
pub use Rattle.event_basis.specs.spec_law as spec_law
pub use Rattle.event_basis.specs as event_basis
