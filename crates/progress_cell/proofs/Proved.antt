-- What the crates above cite of these proofs.
pub use Rattle.progress_cell.proofs.Places.{last_pushed}
