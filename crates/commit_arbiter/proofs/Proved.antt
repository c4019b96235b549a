-- What the crates above may cite of these proofs.
pub use Rattle.commit_arbiter.proofs.Closed.{two_there}
pub use Rattle.commit_arbiter.proofs.Places.{candidate_cmp_total, length-without_candidate, without_gone}
