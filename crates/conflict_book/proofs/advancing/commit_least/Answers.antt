use Rattle.event_step.specs.event_def.declared.event.Event.TheVariants as event
use Rattle.conflict_book.proofs.Leading.{next_commit}
use Rattle.conflict_book.proofs.Passing.{commit_comes}
use Rattle.conflict_book.proofs.advancing.commit_least.Goals as goal

pub returns : goal.returns
returns g c taps steps = (
  event.Commit,
  next_commit g.row.N.Denot g.N.Naming.image c.args.state.now.view c.requires.sound c.requires.goes_on c.args.id c.requires.least,
  commit_comes g.row.N.Denot g.N.Naming.image c.args.state.now.view _ c.make_commit-came.result _ _ _ c.requires.sound c.make_commit-came.ensures c.pass_after.ensures taps steps,
)
