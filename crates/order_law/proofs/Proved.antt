-- What the crates above may cite of these proofs.
pub use Rattle.order_law.proofs.Aborted.{abort_law, below_reopened, rises}
pub use Rattle.order_law.proofs.Committed.{commit_law}
pub use Rattle.order_law.proofs.Dispatched.{cmp_alike, dispatch_law, levels_alike}
pub use Rattle.order_law.proofs.Held.{held_law}
pub use Rattle.order_law.proofs.Innermost.{innermost}
pub use Rattle.order_law.proofs.Least.{below_dispatched, least_is_below}
pub use Rattle.order_law.proofs.Moved.{Renames, beside_spilled, beside_task, beside_which}
pub use Rattle.order_law.proofs.Moved.{high_test, rename_keeps_order}
pub use Rattle.order_law.proofs.Numbers.{LevelsBelow-append}
pub use Rattle.order_law.proofs.Opening.{opening_law}
pub use Rattle.order_law.proofs.Renumbered.{renumber_law}
pub use Rattle.order_law.proofs.Spawned.{enqueue_law, stands}
