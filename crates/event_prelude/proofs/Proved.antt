-- What the crates above may cite of these proofs.
pub use Rattle.event_prelude.proofs.Standing.{tests_least}
pub use Rattle.event_prelude.proofs.Victims.{room_told}
