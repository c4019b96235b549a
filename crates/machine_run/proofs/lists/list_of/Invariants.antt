use Rattle.std.proofs.Common.{◌≡◌, List, ℕ, Some, slice_get, take}
use Rattle.outcome_law.specs.conflict_book.BookViews.{view_of}
use Rattle.machine_run.specs.Played.{tap_lists}
use Rattle.machine_run.proofs.lists.list_of.Given as goal

abbrev pub invariant-loop-place : goal.invariant-loop-place
invariant-loop-place g l =
    (list : List ℕ) → slice_get (tap_lists (view_of g.P.Placer.policy g.T.Tap.notes l.book)) l.tap ≡ Some list → l.list.items ≡ take l.place list
