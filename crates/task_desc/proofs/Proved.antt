-- What the crates above may cite of these proofs.
pub use Rattle.task_desc.proofs.RecordBytes.{desc_of-some, desc_of-valid}
