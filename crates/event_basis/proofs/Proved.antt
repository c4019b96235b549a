-- What the crates above may cite of these proofs.
pub use Rattle.event_basis.proofs.Taker.{commit_leaves_taker, commit_leaves_place, conflicts_leave_taker}
pub use Rattle.event_basis.proofs.Causes.{abort_is_granted, child_no_stall, coalesce_is_granted, commit_is_granted, dispatch_is_granted}
pub use Rattle.event_basis.proofs.Causes.{empty_is_refused, free_no_stall, later_no_stall, latest_is_not_least, least_is_not_busy}
pub use Rattle.event_basis.proofs.Causes.{no_child_no_stall, no_end_no_stall, stall_is_refused, step_is_granted}
pub use Rattle.event_basis.proofs.Comes.{comes_stays_sound}
pub use Rattle.event_basis.proofs.Cores.{core_leaves_idle}
pub use Rattle.event_basis.proofs.Falling.{next_is_commit, next_is_dispatch, next_is_split, next_is_step}
pub use Rattle.event_basis.proofs.Holders.{finished_is_dispatched, finished_is_later, held_has_task}
pub use Rattle.event_basis.proofs.Holders.{holder_is_dispatched, none_is_later}
pub use Rattle.event_basis.proofs.Leasts.{least_idle}
pub use Rattle.event_basis.proofs.Made.{makes_keeps_settings}
pub use Rattle.event_basis.proofs.LeastRead.{below_limit, least_is_firm, least_where, limit_ends, none_commits, none_is_least}
pub use Rattle.event_basis.proofs.LeastRead.{none_is_spilled, read_trap_ends, spilled_where, trapped_is_over}
pub use Rattle.event_basis.proofs.LeastRead.{untrapped_goes_on}
pub use Rattle.event_basis.proofs.Rooms.{least_in_block, room_leaves, room_leaves_asker, room_leaves_block, taken_is_live, taker_asks}
pub use Rattle.event_basis.proofs.Rooms.{victim_moves}
pub use Rattle.event_basis.proofs.Views.{least_is_committed, sound_by_key, sound_named, sound_numbers, trap_ends}
pub use Rattle.event_basis.proofs.Causes.{firm_is_refused, split_is_granted}
