use Rattle.std.proofs.Common.{sym, subst}
use Rattle.std.specs.Prelude.{IfSome}
use Rattle.outcome_law.specs.event_def.End.{HasEnd}
use Rattle.outcome_law.specs.conflict_book.BookViews.{view_of}
use Rattle.machine_run.proofs.Least.{halted_there}
use Rattle.machine_run.proofs.Standing.{over_stands_if}
use Rattle.machine_run.proofs.AtLimit.{halts_so}
use Rattle.machine_run.proofs.running.run_by_workers.Goals as goal

pub stop-requires-clause-stands : goal.stop-requires-clause-stands
stop-requires-clause-stands g c =
    let drained = c.run_tiles-drained.result in
    let last = view_of g.P.Placer.policy g.T.Tap.notes drained.book in
    over_stands_if last.view c.end_of.result
    (subst (λ end. IfSome end (HasEnd last.view)) (sym c.end_of.ensures)
    (halted_there last.view drained.halt c.run_tiles-drained.ensures.halt))

pub returns-clause-halted : goal.returns-clause-halted
returns-clause-halted g c =
    let drained = c.run_tiles-drained.result in
    let last = view_of g.P.Placer.policy g.T.Tap.notes drained.book in
    halts_so g.N.Naming.image g.N.Naming.commits g.N.Naming.budget last.view c.end_of.result c.stop.result.ran
    (subst (λ end. IfSome end (HasEnd last.view)) (sym c.end_of.ensures)
    (halted_there last.view drained.halt c.run_tiles-drained.ensures.halt)) c.stop.ensures.end c.stop.ensures.left
