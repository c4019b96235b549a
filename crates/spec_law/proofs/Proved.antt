-- What the proofs of this crate give to those above, but for what `outcome_law` names by its file.
pub use Rattle.spec_law.proofs.Aborted.Cascades.{cascade_is_later, conflicts_spare_asker}
pub use Rattle.spec_law.proofs.Aborted.KeptHeir.{abort_keeps_heir}
pub use Rattle.spec_law.proofs.Aborted.KeptSound.{abort_for_room_is_sound, abort_of_conflicts_is_sound, abort_of_later_is_sound}
pub use Rattle.spec_law.proofs.Aborted.KeptSound.{abort_of_one_is_sound}
pub use Rattle.spec_law.proofs.Aborted.KeptTasks.{each_now}
pub use Rattle.spec_law.proofs.Aborted.Spared.{cascade_spares_heir, conflicts_spare_heir, least_key, not_below_least, queued_at}
pub use Rattle.spec_law.proofs.Aborted.Taken.{marked_is_back, unmarked_stays, pulled_there}
pub use Rattle.spec_law.proofs.Aborted.Undone.{undo_all_is_serial}
pub use Rattle.spec_law.proofs.Accesses.Kept.{load_stays_sound, store_stays_sound}
pub use Rattle.spec_law.proofs.Accesses.Noted.{none_noted}
pub use Rattle.spec_law.proofs.Adds.Heir.{add_keeps_heir}
pub use Rattle.spec_law.proofs.Commits.Domains.{starts_so}
pub use Rattle.spec_law.proofs.Commits.Order.{least_of_all}
pub use Rattle.spec_law.proofs.Commits.Sound.{commit_is_sound_turn}
pub use Rattle.spec_law.proofs.Commits.Turn.{number_of}
pub use Rattle.spec_law.proofs.Dispatches.Below.{below_others, upto_queued, upto_spilled}
pub use Rattle.spec_law.proofs.Dispatches.One.{now, was_idle}
pub use Rattle.spec_law.proofs.Dispatches.Sound.{dispatch_stays_sound}
pub use Rattle.spec_law.proofs.Enqueues.Steps.{adds, enqueue_stays_sound, steps_one, without_child}
pub use Rattle.spec_law.proofs.Moves.Added.{added_stands, all_added, pushes_each, StandsAt}
pub use Rattle.spec_law.proofs.Moves.CoalesceBags.{coalesced_bags}
pub use Rattle.spec_law.proofs.Moves.CoalesceMoves.{coalesce_moves, inside, queued_was}
pub use Rattle.spec_law.proofs.Moves.CoalesceSizes.{coalesce_sizes}
pub use Rattle.spec_law.proofs.Moves.CoalesceSound.{coalesce_stays_sound}
pub use Rattle.spec_law.proofs.Moves.MovingHeir.{moved_heir}
pub use Rattle.spec_law.proofs.Moves.SplitSound.{split_stays_sound}
pub use Rattle.spec_law.proofs.Renumbers.Few.{numbers_are_held, numbers_in_use_are_few}
pub use Rattle.spec_law.proofs.Renumbers.One.{after as renumbered_to, each_now as each_renumbered, holds_placed, holds_task}
pub use Rattle.spec_law.proofs.Renumbers.One.{is_after as is_renumbered, now as renumbered_now, same_order, spilled_was}
pub use Rattle.spec_law.proofs.Renumbers.Sound.{renumbering_leaves_numbers, renumbering_says_same, renumbering_stays_sound}
pub use Rattle.spec_law.proofs.Rooms.Child.{child_is_above}
pub use Rattle.spec_law.proofs.Rooms.Fit.{contains_in, heirs_are_one, in_contains}
pub use Rattle.spec_law.proofs.Rooms.Later.{victim_is_later}
pub use Rattle.spec_law.proofs.Rooms.Made.{leaves_place}
pub use Rattle.spec_law.proofs.Rooms.Returned.{split_keeps_least}
pub use Rattle.spec_law.proofs.Steps.Heir.{step_keeps_heir}
pub use Rattle.spec_law.proofs.Steps.Laws.{byte_stays_sound, end_stays_sound, quantum_stays_sound, sub_stays_sound, trap_stays_sound}
pub use Rattle.spec_law.proofs.Steps.One.{StepsOne, stepped_task}
pub use Rattle.spec_law.proofs.Steps.Sound.{keeps_steps}
pub use Rattle.spec_law.proofs.Tasks.Beside.{id_below, queued_stands, spilled_in_keys, spilled_stands, which}
pub use Rattle.spec_law.proofs.Tasks.Contained.{some_first, some_in, decided}
pub use Rattle.spec_law.proofs.Tasks.Distinct.{distinct_at}
pub use Rattle.spec_law.proofs.Tasks.Filtered.{filter_leaves, list_mapped}
pub use Rattle.spec_law.proofs.Tasks.Firm.{spilled_are_firm}
pub use Rattle.spec_law.proofs.Tasks.Foremost.{Free, free_is_keyed}
pub use Rattle.spec_law.proofs.Tasks.Leasts.{makes_least}
pub use Rattle.spec_law.proofs.Tasks.Lowest.{lowest}
pub use Rattle.spec_law.proofs.Tasks.Next.{firm_is_committed, in_spilled, least_is_next, none_is_committed, spot_of}
pub use Rattle.spec_law.proofs.Tasks.Places.{contains_get, get_contains, place_in_all}
pub use Rattle.spec_law.proofs.Tasks.Ranked.{least_is_one, ranked_turned, same_spot}
pub use Rattle.spec_law.proofs.Tasks.Turned.{not_both_ways, one_least_idle}
pub use Rattle.spec_law.proofs.Tasks.Rebound.{below_all}
pub use Rattle.spec_law.proofs.Tasks.Stacked.{run_stack}
pub use Rattle.spec_law.proofs.Dispatches.Below.{no_tie}
pub use Rattle.spec_law.proofs.Tasks.Filtered.{filter_is, get_mapped, queue_filtered}
pub use Rattle.spec_law.proofs.Tasks.Ranked.{not_greater_ties}
