use Rattle.event_step.specs.event_def.declared.event.Event.TheVariants as event
use Rattle.conflict_book.proofs.Leading.{dispatch_is_idle, next_dispatch}
use Rattle.conflict_book.proofs.advancing.dispatch_least.Goals as goal

pub make_dispatch-requires-clause-idle : goal.make_dispatch-requires-clause-idle
make_dispatch-requires-clause-idle g c =
    dispatch_is_idle g.row.N.Denot g.N.Naming.image c.args.state.now.view c.requires.sound c.requires.goes_on c.args.id c.tile_of-tile.result c.requires.least c.tile_of-tile.ensures

pub returns : goal.returns
returns g c placers taps steps = (
  event.Dispatch c.tile_of-tile.result,
  next_dispatch g.row.N.Denot g.N.Naming.image c.args.state.now.view c.requires.sound c.requires.goes_on c.args.id c.tile_of-tile.result c.requires.least c.tile_of-tile.ensures,
  c.make_dispatch.ensures placers taps steps,
)
