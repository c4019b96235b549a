-- What the crates above may cite of these proofs.
pub use Rattle.undo_log.proofs.Numbers.{AreBytes-after_write, get_or-written_before, get_or-written_behind, length-after_write, number_at-written_apart}
pub use Rattle.undo_log.proofs.Numbers.{after_write-restored, low_digit, written_comm}
pub use Rattle.undo_log.proofs.Restores.{length-undone}
