use Rattle.std.proofs.Common.{ℕ, Vec, Global}
use Rattle.outcome_law.specs.conflict_book.BookViews.{view_of}
use Rattle.machine_run.specs.Played.{tap_lists}
use Rattle.machine_run.proofs.TapLists.{next_told}
use Rattle.machine_run.proofs.lists.lists_of.Goals as goal

pub loop-tap-preserved : goal.loop-tap-preserved
loop-tap-preserved g c =
    let lists = tap_lists (view_of g.P.Placer.policy g.T.Tap.notes c.args.book.now) in
    next_told (λ (list : Vec ℕ Global). list.items) lists c.loop-tap.tap c.loop-tap.told.items c.push.new.self.items c.in-Some.list c.loop-tap.invariant
    (rw c.in-Some.is at c.in_ok-list.ensures) c.in_ok-push.ensures.items
