use Rattle.std.proofs.Common.{sym, subst}
use Rattle.std.specs.Prelude.{IfSome, Some, ◌≡◌}
use Rattle.outcome_law.specs.event_def.End.{HasEnd}
use Rattle.outcome_law.specs.conflict_book.BookViews.{view_of}
use Rattle.machine_run.specs.Least.{end_of_halt}
use Rattle.machine_run.proofs.Least.{halted, left_is_least_run}
use Rattle.machine_run.proofs.Standing.{over_stands_if}
use Rattle.machine_run.proofs.AtLimit.{halts_so, with_end}
use Rattle.machine_run.proofs.running.run_alone.Goals as goal

pub stop-requires-clause-stands : goal.stop-requires-clause-stands
stop-requires-clause-stands g c =
    let last = view_of g.P.Placer.policy g.T.Tap.notes c.run_least-halt.new.self in
    over_stands_if last.view c.end_of.result
    (subst (λ end. IfSome end (HasEnd last.view)) (sym c.end_of.ensures)
    (halted g.row.N.Denot g.N.Naming.image last c.run_least-halt.result c.run_least-halt.ensures.halts))

pub returns-clause-least : goal.returns-clause-least
returns-clause-least g c = λ settings placers taps valid is_opening.
    let N = g.row.N.Denot in
    let image = g.N.Naming.image in
    let opening = view_of g.P.Placer.policy g.T.Tap.notes c.args.book in
    let last = view_of g.P.Placer.policy g.T.Tap.notes c.run_least-halt.new.self in
    let ran = c.stop.result.ran in
    let halt = c.run_least-halt.result in
    with_end N image settings placers taps ran.closed (end_of_halt halt) ran.end
    (subst (λ end. IfSome ran.end (λ told. end ≡ Some told)) c.end_of.ensures c.stop.ensures.end)
    (left_is_least_run image settings placers taps opening is_opening N last c.requires.fits valid ran.closed halt
    c.run_least-halt.ensures c.stop.ensures.closes)

pub returns-clause-halted : goal.returns-clause-halted
returns-clause-halted g c =
    let image = g.N.Naming.image in
    let last = view_of g.P.Placer.policy g.T.Tap.notes c.run_least-halt.new.self in
    let halt = c.run_least-halt.result in
    halts_so image g.N.Naming.commits g.N.Naming.budget last.view c.end_of.result c.stop.result.ran
    (subst (λ end. IfSome end (HasEnd last.view)) (sym c.end_of.ensures)
    (halted g.row.N.Denot image last halt c.run_least-halt.ensures.halts)) c.stop.ensures.end c.stop.ensures.left
