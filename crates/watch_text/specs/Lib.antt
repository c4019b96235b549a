-- Contracts of public calls mean all of these.
pub mod Moments
pub mod Fields
pub mod Requests
pub mod Changes
pub mod Lines
pub mod Opening
pub mod Views
-- What the crates above name of the crates below.
pub use Rattle.script_text.specs.serial_machine as serial_machine
pub use Rattle.script_text.specs.spec_state as spec_state
pub use Rattle.script_text.specs.event_def as event_def
pub use Rattle.script_text.specs.spec_law as spec_law
pub use Rattle.script_text.specs.event_basis as event_basis
pub use Rattle.script_text.specs.event_move as event_move
pub use Rattle.script_text.specs.conflict_book as conflict_book
pub use Rattle.script_text.specs.step_script as step_script
