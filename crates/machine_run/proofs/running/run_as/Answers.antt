use Rattle.std.proofs.Common.{map, sym, subst, arith}
use Rattle.outcome_law.specs.conflict_book.BookViews.{view_of}
use Rattle.machine_run.specs.Least.{IsLeastRun, run_of_closed}
use Rattle.machine_run.proofs.Least.{opening_steps}
use Rattle.machine_run.proofs.Named.{halted_named, pending_named}
use Rattle.machine_run.proofs.running.run_as.Goals as goal

pub run_by_workers-requires-clause-steps : goal.run_by_workers-requires-clause-steps
run_by_workers-requires-clause-steps g c κs within =
    let placers = map g.P.Placer.policy c.args.placers.items in
    let taps = map g.T.Tap.notes c.args.taps.items in
    let opening = view_of g.P.Placer.policy g.T.Tap.notes c.in_ok-book.book in
    let none = opening_steps g.N.Naming.image c.args.settings placers taps opening c.in_ok-book.ensures in
    omega (arith, none)

pub returns-then-workers-eq0-clause-run : goal.returns-then-workers-eq0-clause-run
returns-then-workers-eq0-clause-run g c =
    let settings = c.args.settings in
    let placers = map g.P.Placer.policy c.args.placers.items in
    let taps = map g.T.Tap.notes c.args.taps.items in
    let ran = c.run_alone.result.ran in
    let least = c.run_alone.ensures.least settings placers taps c.requires.valid c.in_ok-book.ensures in
    record {
      least = λ none.
          subst (λ image. IsLeastRun g.row.N.Denot image settings placers taps ran.closed.steps
          (run_of_closed ran.closed ran.end)) (sym c.requires.named.image_is) least;
      halted = halted_named c.args.image.now settings g.N.Naming.image g.N.Naming.budget g.N.Naming.commits
          c.requires.named ran c.run_alone.ensures.halted;
    }

pub returns-then-workers-eq0-clause-pending : goal.returns-then-workers-eq0-clause-pending
returns-then-workers-eq0-clause-pending g c =
    pending_named c.args.image.now c.args.settings g.N.Naming.image g.N.Naming.budget g.N.Naming.commits
    c.requires.named c.args.goes_on c.run_alone.result c.run_alone.ensures.pending

pub returns-else-workers-eq0-clause-run : goal.returns-else-workers-eq0-clause-run
returns-else-workers-eq0-clause-run g c = record {
  least = λ none. absurd (c.if-workers-eq0.false none);
  halted = halted_named c.args.image.now c.args.settings g.N.Naming.image g.N.Naming.budget g.N.Naming.commits
      c.requires.named c.run_by_workers.result.ran c.run_by_workers.ensures.halted;
}

pub returns-else-workers-eq0-clause-pending : goal.returns-else-workers-eq0-clause-pending
returns-else-workers-eq0-clause-pending g c =
    pending_named c.args.image.now c.args.settings g.N.Naming.image g.N.Naming.budget g.N.Naming.commits
    c.requires.named c.args.goes_on c.run_by_workers.result c.run_by_workers.ensures.pending
