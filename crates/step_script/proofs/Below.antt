-- The proofs of the crates below that the crates above cite.
pub use Rattle.conflict_book.proofs.Below.run_law as run_law
pub use Rattle.conflict_book.proofs.Below.spec_state as spec_state
pub use Rattle.conflict_book.proofs.Below.spec_law as spec_law
pub use Rattle.conflict_book.proofs.Below.event_law as event_law
pub use Rattle.conflict_book.proofs.Below.event_basis as event_basis
