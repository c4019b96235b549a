-- What the crates above may cite of these proofs.
pub use Rattle.pending_law.proofs.Counts.{Holds}
pub use Rattle.pending_law.proofs.Serial.{pendings_are_serial}
