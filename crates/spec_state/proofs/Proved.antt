-- What the crates above may cite of these proofs.
pub use Rattle.spec_state.proofs.Cored.{counts_now, holder_now, others_now, set_here, set_there, this_or_other}
pub use Rattle.spec_state.proofs.Entered.{has_head, head_or_tail, held_at, in_tail}
pub use Rattle.spec_state.proofs.Heirs.{by_firm, firm_by, tied_place, one_least}
pub use Rattle.spec_state.proofs.HeldNumbers.{table_holds_path, table_holds_spilled, table_holds_task}
pub use Rattle.spec_state.proofs.Joined.{is_new, other_queue, own_queue, queued, still_there, was_there, within_lists}
pub use Rattle.spec_state.proofs.Kept.{AreKept, formed_kept, formed_later, indexed_kept, indexed_set, KeepsKey, KeepsPlace, keeps_some, kept_all}
pub use Rattle.spec_state.proofs.Kept.{others_set, same_count, same_place, slots_kept, slots_set, stored_kept, stored_set, task_set, trapped_place}
pub use Rattle.spec_state.proofs.Moved.{from_without, in_without}
pub use Rattle.spec_state.proofs.Noted.{noted_back, noted_but_one, noted_set, same_child}
pub use Rattle.spec_state.proofs.Put.{few_indexed}
pub use Rattle.spec_state.proofs.Renumbered.{below_slots}
pub use Rattle.spec_state.proofs.Reserved.{same_lists, spare_at, spare_before, spare_grows}
pub use Rattle.spec_state.proofs.Without.{all_same, freed_other, held_place, keeps_none, map_at, seen_at, same_test}
pub use Rattle.spec_state.proofs.Counted.{few_tasks}
pub use Rattle.spec_state.proofs.Cored.{at_within}
pub use Rattle.spec_state.proofs.Without.{other_test}
pub use Rattle.spec_state.proofs.Touched.{told_touched, told_written}
