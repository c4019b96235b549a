use Rattle.std.proofs.Common.{◌≡◌, ◌≤◌, length, take}
use Rattle.std.specs.Prelude.{vec_capacity}
use Rattle.event_step.specs.event_def.Happens.{HappenAll}
use Rattle.conflict_book.specs.BookViews.{view_of}
use Rattle.conflict_book.proofs.book.Book.apply_all.Given as goal

abbrev pub invariant-loop-event : goal.invariant-loop-event
invariant-loop-event g l = record {
  happen : HappenAll (view_of g.P.Placer.policy g.T.Tap.notes l.fn.self) (take l.event-index l.fn.events.items) l.answers.items
      (view_of g.P.Placer.policy g.T.Tap.notes l.self);
  settings : (view_of g.P.Placer.policy g.T.Tap.notes l.self).view.settings ≡ (view_of g.P.Placer.policy g.T.Tap.notes l.fn.self).view.settings;
  count : length l.answers.items ≡ l.event-index;
  spare : length l.fn.events.items ≤ vec_capacity l.answers;
}
