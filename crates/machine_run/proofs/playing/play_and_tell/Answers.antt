use Rattle.outcome_law.specs.conflict_book.BookViews.{view_of}
use Rattle.machine_run.proofs.Scripts.{played_before}
use Rattle.machine_run.proofs.playing.play_and_tell.Goals as goal

pub returns-clause-out_of_memory : goal.returns-clause-out_of_memory
returns-clause-out_of_memory g c =
    let old = view_of g.P.Placer.policy g.T.Tap.notes c.args.book.now in
    let new = view_of g.P.Placer.policy g.T.Tap.notes c.play.new.book in
    played_before g.row.N.Denot g.N.Naming.image c.args.script.now old new c.in_ok-play.field-0.items c.lists_of.result c.in_ok-play.ensures.plays
