use Rattle.std.proofs.Common.{◌≡◌, map, take}
use Rattle.outcome_law.specs.conflict_book.BookViews.{view_of}
use Rattle.machine_run.specs.Played.{tap_lists}
use Rattle.machine_run.proofs.lists.lists_of.Given as goal

abbrev pub invariant-loop-tap : goal.invariant-loop-tap
invariant-loop-tap g l =
    map (λ list. list.items) l.told.items ≡ take l.tap (tap_lists (view_of g.P.Placer.policy g.T.Tap.notes l.book))
