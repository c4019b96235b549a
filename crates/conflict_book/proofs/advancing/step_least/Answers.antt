use Rattle.event_step.specs.event_def.declared.event.Event.TheVariants as event
use Rattle.conflict_book.proofs.Leading.{next_step, step_takes}
use Rattle.conflict_book.proofs.advancing.step_least.Goals as goal

pub make_step-requires-clause-takes : goal.make_step-requires-clause-takes
make_step-requires-clause-takes g c = (
  c.requires.least.1,
  c.requires.least.0,
  step_takes g.row.N.Denot g.N.Naming.image c.args.state.now.view c.requires.sound c.requires.goes_on c.args.id c.requires.least c.tile_of-tile.result c.run_leg_of.new.leg
      c.tile_of-tile.ensures c.run_leg_of.ensures,
)

pub returns : goal.returns
returns g c taps steps = (
  event.Step c.tile_of-tile.result c.requires.least.1 c.run_leg_of.new.leg,
  next_step g.row.N.Denot g.N.Naming.image c.args.state.now.view c.requires.sound c.requires.goes_on c.args.id c.requires.least c.tile_of-tile.result c.run_leg_of.new.leg
      c.tile_of-tile.ensures c.run_leg_of.ensures,
  c.make_step.ensures c.requires.least.1 c.requires.least.0
      (step_takes g.row.N.Denot g.N.Naming.image c.args.state.now.view c.requires.sound c.requires.goes_on c.args.id c.requires.least c.tile_of-tile.result c.run_leg_of.new.leg
      c.tile_of-tile.ensures c.run_leg_of.ensures) taps steps,
)
