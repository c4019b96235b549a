-- What the crates above may cite of these proofs.
pub use Rattle.outcome_law.proofs.Aborts.{undone_alike}
pub use Rattle.outcome_law.proofs.Alike.{alike_turned}
pub use Rattle.outcome_law.proofs.Leasts.{end_is_alike, over_too}
pub use Rattle.outcome_law.proofs.Opened.{opening_is_one}
pub use Rattle.outcome_law.proofs.Scripts.{play_is_one}
pub use Rattle.outcome_law.proofs.Leasts.{block_too, history_too, least_too, spilled_too, the_least_too}
pub use Rattle.outcome_law.proofs.Queries.{free_core_too, least_idle_too, running_too}
pub use Rattle.outcome_law.proofs.Rooms.{has_room_too}
pub use Rattle.outcome_law.proofs.Scripts.{GoAlike, all_one}
