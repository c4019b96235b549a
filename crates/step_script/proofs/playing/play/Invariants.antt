use Rattle.std.proofs.Common.{◌≡◌, [], take}
use Rattle.conflict_book.specs.BookViews.{view_of}
use Rattle.step_script.specs.Playing.{DoesAll}
use Rattle.step_script.proofs.playing.play.Given as goal

abbrev pub invariant-loop-act : goal.invariant-loop-act
invariant-loop-act g l = record {
  played : DoesAll g.row.N.Denot g.N.Naming.image (take l.act-index l.acts)
      (record { book = view_of g.P.Placer.policy g.T.Tap.notes l.fn.book; held = [] }) l.said.items
      (record { book = view_of g.P.Placer.policy g.T.Tap.notes l.book; held = l.player.held });
  settings : (view_of g.P.Placer.policy g.T.Tap.notes l.book).view.settings
      ≡ (view_of g.P.Placer.policy g.T.Tap.notes l.fn.book).view.settings;
}
