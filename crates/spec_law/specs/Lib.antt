-- Contracts mean all of these.
pub mod Sound
pub mod Laws
pub mod AbortLaws
pub mod Keeping
pub mod Renumbering
pub mod FilterLaws
pub mod RoomLaws
-- What the crates above name of the crates below.
pub use Rattle.spec_state.specs.serial_machine as serial_machine
pub use Rattle.spec_state.specs.task_law as task_law
pub use Rattle.spec_state.specs as spec_state
