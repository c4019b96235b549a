-- The lemmas that other crates cite.
pub use Rattle.machine_run.proofs.Least.{opening_settings}
pub use Rattle.machine_run.proofs.Leaving.{left_is_run_of, left_is_sized, run_left}
pub use Rattle.machine_run.proofs.One.{played_run_is_one, traced_run_is_one}
