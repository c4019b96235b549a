use Rattle.std.proofs.Common.{refl, subst, Some, true}
use Rattle.run_journal.specs.declared.end.End.TheVariants.{Limit}
use Rattle.outcome_law.specs.event_def.Closing.{Closes}
use Rattle.outcome_law.specs.conflict_book.BookViews.{view_of}
use Rattle.outcome_law.specs.spec_state.Pendings.{RunLeaves}
use Rattle.machine_run.proofs.Leaving.{left_of}
use Rattle.machine_run.proofs.AtLimit.{keeps_all}
use Rattle.machine_run.proofs.left.freeze.Goals as goal

pub returns-in-Ok-clause-left : goal.returns-in-Ok-clause-left
returns-in-Ok-clause-left g c =
    let last = view_of g.P.Placer.policy g.T.Tap.notes c.args.book in
    let law = c.is_sound.ensures in
    left_of g.N.Naming.image g.N.Naming.commits g.N.Naming.budget last c.in-Ok.frozen.closed (Some Limit)
    c.requires.fits law.sound c.in-Ok.ensures.closes c.requires.stands law.commits law.budget

pub returns-in-Ok-clause-pending : goal.returns-in-Ok-clause-pending
returns-in-Ok-clause-pending g c =
    let closed = c.in-Ok.frozen.closed in
    let pending = c.in-Ok.frozen.pending in
    let image = g.N.Naming.image in
    let left = returns-in-Ok-clause-left g c in
    keeps_all image g.N.Naming.commits g.N.Naming.budget true (record { closed = closed; end = Some Limit }) pending
    refl left.run
    (subst (λ budget. RunLeaves image budget closed.journal closed.memory closed.output pending)
    c.is_sound.ensures.budget c.in-Ok.ensures.frozen)

pub returns-in-Err-clause-closes : goal.returns-in-Err-clause-closes
returns-in-Err-clause-closes g c =
    subst (λ book. Closes book c.leave.result.closed) c.in-Err.ensures.back c.leave.ensures.closes
