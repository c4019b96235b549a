-- Contracts mean Coming; the others serve this crate alone.
pub mod Accessing
pub mod Coming
pub mod Ending
pub mod Placing
-- What the crates above name of the crates below.
pub use Rattle.event_prelude.specs.serial_machine as serial_machine
pub use Rattle.event_prelude.specs.run_law as run_law
pub use Rattle.event_prelude.specs.task_law as task_law
pub use Rattle.event_prelude.specs.spec_state as spec_state
pub use Rattle.event_prelude.specs.event_def as event_def
pub use Rattle.event_prelude.specs.spec_law as spec_law
pub use Rattle.event_prelude.specs.event_basis as event_basis
pub use Rattle.spec_access.specs as spec_access
