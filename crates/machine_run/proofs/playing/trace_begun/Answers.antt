use Rattle.outcome_law.specs.conflict_book.BookViews.{view_of}
use Rattle.machine_run.proofs.Scripts.{traced_cut, traced_whole}
use Rattle.machine_run.proofs.playing.trace_begun.Goals as goal

pub returns-in-Ok-clause-traced : goal.returns-in-Ok-clause-traced
returns-in-Ok-clause-traced g c = λ settings placers taps is_opening.
    let opening = view_of g.P.Placer.policy g.T.Tap.notes c.args.book in
    let last = view_of g.P.Placer.policy g.T.Tap.notes c.play_and_tell.new.book in
    traced_whole g.row.N.Denot g.N.Naming.image settings c.args.script.now placers taps opening is_opening last
    (record { ran = c.leave_standing.result; lists = c.in-Ok.lists }) c.leave_standing.ensures.closes
    c.in-Ok.ensures.told c.leave_standing.ensures.stands

pub returns-in-Err-clause-traced : goal.returns-in-Err-clause-traced
returns-in-Err-clause-traced g c = λ settings placers taps is_opening.
    let opening = view_of g.P.Placer.policy g.T.Tap.notes c.args.book in
    let last = view_of g.P.Placer.policy g.T.Tap.notes c.play_and_tell.new.book in
    traced_cut g.row.N.Denot g.N.Naming.image settings c.args.script.now placers taps opening is_opening last
    (record { ran = c.leave.result; lists = c.new.result }) c.leave.ensures.closes c.in-Err.ensures.out_of_memory
    c.leave.ensures.end
