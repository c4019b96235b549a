-- What the crates above may cite of these proofs, but for what `commit_arbiter` and `spill_store` name by its file.
pub use Rattle.fractal_vt.proofs.InTurn.{in_turn-permutation}
pub use Rattle.fractal_vt.proofs.KeyLaws.{deeper_less, equal_keys_tie, key_cmp_total, last_levels_decide}
pub use Rattle.fractal_vt.proofs.Renumbered.{keeps_order, place_cmp, place_within}
pub use Rattle.fractal_vt.proofs.Search.{first_of_one, least_at}
pub use Rattle.fractal_vt.proofs.Sorted.{All-after_insert, AllPairs-head, AllPairs-map, AllPairs-tail, front-after_insert, in_order-after_insert}
pub use Rattle.fractal_vt.proofs.Sorted.{in_turn, after_insert-permutes, inserted_at, length-after_insert, place_beyond, place_upto}
pub use Rattle.fractal_vt.proofs.Sorted.{ties_behind, less_then, less_upto}
pub use Rattle.fractal_vt.proofs.OnPaths.{deeper_is_less, not_both, prefix_is_less, same_child_on_path, same_depth, same_front}
pub use Rattle.fractal_vt.proofs.OnPaths.{stays_on_path, sub_child_on_path, super_child_on_path}
pub use Rattle.fractal_vt.proofs.Total.{level_cmp_total, levels_cmp_total}
pub use Rattle.fractal_vt.proofs.Orderings.{both_equal, greater_not, less_from, less_of, not_greater, then_equal}
pub use Rattle.fractal_vt.proofs.Orderings.{greater_number, less_number, then_greater, then_less, same_number}
pub use Rattle.fractal_vt.proofs.Lists.{All-front, all_get, get_end, get_front, map-insert, inserted_front, take_next}
pub use Rattle.fractal_vt.proofs.Orderings.{below_from, first_not_greater}
pub use Rattle.fractal_vt.proofs.Lists.{last_front, take_one_more, cases_some, is_some_mapped, mapped_some}
