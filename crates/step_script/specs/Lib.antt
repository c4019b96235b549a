-- Contracts mean all of these.
pub mod Grammar
pub mod Ranges
pub mod Written
pub mod Playing
pub mod Asking
-- What the crates above name of the crates below.
pub use Rattle.conflict_book.specs.serial_machine as serial_machine
pub use Rattle.conflict_book.specs.task_law as task_law
pub use Rattle.conflict_book.specs.spec_state as spec_state
pub use Rattle.conflict_book.specs.event_def as event_def
pub use Rattle.conflict_book.specs.spec_law as spec_law
pub use Rattle.conflict_book.specs.event_basis as event_basis
pub use Rattle.conflict_book.specs.spec_access as spec_access
pub use Rattle.conflict_book.specs.event_move as event_move
pub use Rattle.conflict_book.specs as conflict_book
