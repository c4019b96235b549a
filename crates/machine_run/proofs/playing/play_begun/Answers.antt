use Rattle.outcome_law.specs.conflict_book.BookViews.{view_of}
use Rattle.machine_run.proofs.Scripts.{left_cut, left_whole}
use Rattle.machine_run.proofs.playing.play_begun.Goals as goal

pub returns-in-Ok-clause-played : goal.returns-in-Ok-clause-played
returns-in-Ok-clause-played g c = λ settings placers taps is_opening.
    let opening = view_of g.P.Placer.policy g.T.Tap.notes c.args.book in
    let last = view_of g.P.Placer.policy g.T.Tap.notes c.play.new.book in
    left_whole g.row.N.Denot g.N.Naming.image settings c.args.script.now placers taps opening is_opening last
    (record { ran = c.leave_standing.result; said = c.in-Ok.said }) c.leave_standing.ensures.closes
    c.in-Ok.ensures.plays c.leave_standing.ensures.stands

pub returns-in-Err-clause-played : goal.returns-in-Err-clause-played
returns-in-Err-clause-played g c = λ settings placers taps is_opening.
    let opening = view_of g.P.Placer.policy g.T.Tap.notes c.args.book in
    let last = view_of g.P.Placer.policy g.T.Tap.notes c.play.new.book in
    left_cut g.row.N.Denot g.N.Naming.image settings c.args.script.now placers taps opening is_opening last
    (record { ran = c.leave.result; said = c.new.result }) c.leave.ensures.closes c.in-Err.ensures.out_of_memory
    c.leave.ensures.end
