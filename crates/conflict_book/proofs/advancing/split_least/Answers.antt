use Rattle.event_step.specs.event_def.declared.event.Event.TheVariants as event
use Rattle.conflict_book.proofs.Leading.{next_split}
use Rattle.conflict_book.proofs.advancing.split_least.Goals as goal

pub returns : goal.returns
returns g c placers taps steps = (
  event.Split c.args.tile,
  next_split g.row.N.Denot g.N.Naming.image c.args.state.now.view c.requires.sound c.requires.goes_on c.args.tile c.requires.least,
  c.make_split.ensures placers taps steps,
)
