-- What the crates above may cite of these proofs.
pub use Rattle.task_law.proofs.Advance.{rest_bounded}
pub use Rattle.task_law.proofs.Asking.{logged-holds}
pub use Rattle.task_law.proofs.Bags.{inner-Stands, Stands-inner}
pub use Rattle.task_law.proofs.Coalesce.{coalesces_keep, splits_keep}
pub use Rattle.task_law.proofs.Fitting.{contexts_fit, turns_keep_domains}
pub use Rattle.task_law.proofs.Freed.{commits_keep, named_same, same_named}
pub use Rattle.task_law.proofs.Grown.{dispatches_keep, enqueues_keep, get_cases, idle_least, none_sound}
pub use Rattle.task_law.proofs.Grown.{placements_keep}
pub use Rattle.task_law.proofs.Logging.{finished, logged_run_is_turn, logged_trap_is_serial, on_memory}
pub use Rattle.task_law.proofs.Resized.{end_on, logged_on}
pub use Rattle.task_law.proofs.Rooms.{shorter, shorter_or_same, victims_are_legal}
pub use Rattle.task_law.proofs.Subdomains.{done-fits}
pub use Rattle.task_law.proofs.Taken.{aborts_keep}
pub use Rattle.task_law.proofs.Turning.{commit_is_turn, head_has, least_has_turn}
pub use Rattle.task_law.proofs.Whole.{have_domains}
