-- What the crates above may cite of these proofs, but for what `outcome_law` names by its file.
pub use Rattle.memory_law.proofs.Filters.{noted_all, noted_within, notes_of-append}
pub use Rattle.memory_law.proofs.Joins.{length-after_accesses}
pub use Rattle.memory_law.proofs.Latest.{latest_first, member_dispatched, not_self}
pub use Rattle.memory_law.proofs.Replays.{after_accesses-append, Replays-back, Replays-front}
pub use Rattle.memory_law.proofs.WholeChains.{abort_keeps_chain, all_undone_is_serial, commit_keeps_chain, dispatch_keeps_chain}
pub use Rattle.memory_law.proofs.WholeChains.{idle_tasks_keep_chain, load_keeps_chain, store_keeps_chain, undispatched_is_chained}
