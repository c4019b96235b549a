-- The proofs of the crates below that the crates above cite.
pub use Rattle.watch_text.proofs.Below.spec_law as spec_law
pub use Rattle.watch_text.proofs.Below.event_law as event_law
pub use Rattle.watch_text.proofs.Below.event_basis as event_basis
pub use Rattle.watch_text.proofs.Below.step_script as step_script
