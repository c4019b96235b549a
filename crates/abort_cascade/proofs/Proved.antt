-- What the crates above may cite of these proofs.
pub use Rattle.abort_cascade.proofs.Members.{listed_front, marked_within, listed_below, IsListOf-none, IsListOf-mark}
pub use Rattle.abort_cascade.proofs.Rounds.{count-mark, Spreads-none}
pub use Rattle.abort_cascade.proofs.Union.{unmarked}
