-- The lemmas that other crates cite.
pub use Rattle.step_script.proofs.Does.{HasCome, comes_of, does_other, said}
pub use Rattle.step_script.proofs.HeldLegs.{AreRuns, ended_runs, held_runs, without_runs}
pub use Rattle.step_script.proofs.Played.{does_more}
pub use Rattle.step_script.proofs.Ranges.{acts_within}
