-- What the crates above may cite of these proofs, but for what `pending_law` names by its file.
pub use Rattle.run_law.proofs.Counted.{count-run}
pub use Rattle.run_law.proofs.Lawful.{lawful}
pub use Rattle.run_law.proofs.Placed.{done-placed, HasDomain, HaveDomains, IsPlaced, request-placed}
pub use Rattle.run_law.proofs.RunSteps.{Runs-more, Runs-same}
pub use Rattle.run_law.proofs.Sized.{length-opening, run_reaches, run_sized, turned-keeps}
pub use Rattle.run_law.proofs.Turned.{turn-did, Turned}
pub use Rattle.run_law.proofs.Distinct.{at_most_one}
