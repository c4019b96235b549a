-- Contracts of public calls mean all of these. Counts has what is counted, on one page.
pub mod Kinds
pub mod Work
pub mod Nothing
pub mod Counts
pub mod Capped
pub mod Texts
-- What the crates above name of the crates below.
pub use Rattle.watch_text.specs.serial_machine as serial_machine
pub use Rattle.watch_text.specs.spec_state as spec_state
pub use Rattle.watch_text.specs.event_def as event_def
pub use Rattle.watch_text.specs.spec_law as spec_law
pub use Rattle.watch_text.specs.event_basis as event_basis
pub use Rattle.watch_text.specs.event_move as event_move
pub use Rattle.watch_text.specs.conflict_book as conflict_book
pub use Rattle.watch_text.specs.step_script as step_script
pub use Rattle.watch_text.specs as watch_text
