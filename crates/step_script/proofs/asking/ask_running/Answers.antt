use Rattle.conflict_book.specs.event_def.declared.event.Event.TheVariants as event
use Rattle.step_script.proofs.Attempts.{advance_asks, seen_in_tile, seen_leg, seen_on_core, seen_running}
use Rattle.step_script.proofs.asking.ask_running.Goals as goal

pub run_at-requires-clause-core : goal.run_at-requires-clause-core
run_at-requires-clause-core g c =
    seen_on_core g.N.Naming.image c.state-state.result.now.view _ c.state-state.ensures.view
    c.state-state.ensures.sound c.args.id
    c.tile_of-tile.result c.in-Running.core c.task.result.now c.task.ensures c.in-Running.is c.tile_of-tile.ensures

pub unreachable-requires : goal.unreachable-requires
unreachable-requires g c =
    c.run_at.ensures.none c.if-run_at.false c.args.id.0 c.task.result.now
    (seen_running g.N.Naming.image c.state-state.result.now.view _ c.state-state.ensures.view
    c.state-state.ensures.sound c.args.id
    c.tile_of-tile.result c.in-Running.core c.task.result.now c.task.ensures c.in-Running.is c.tile_of-tile.ensures)

pub returns-clause-asks : goal.returns-clause-asks
returns-clause-asks g c =
    advance_asks g.row.N.Denot g.N.Naming.image _ (event.Step c.tile_of-tile.result c.in-Running.core c.run_at.new.leg)
    (seen_leg g.N.Naming.image c.state-state.result.now.view _ c.state-state.ensures.view c.state-state.ensures.sound
    c.args.id
    c.tile_of-tile.result c.in-Running.core c.task.result.now c.task.ensures c.in-Running.is c.tile_of-tile.ensures
    g.row.N.Denot c.requires.goes_on c.requires.least c.run_at.new.leg (c.run_at.ensures.some c.if-run_at.true))

pub returns-clause-within : goal.returns-clause-within
returns-clause-within g c = (
  seen_in_tile g.N.Naming.image c.state-state.result.now.view _ c.state-state.ensures.view c.state-state.ensures.sound
      c.args.id
      c.tile_of-tile.result c.in-Running.core c.task.result.now c.task.ensures c.in-Running.is c.tile_of-tile.ensures,
  seen_on_core g.N.Naming.image c.state-state.result.now.view _ c.state-state.ensures.view c.state-state.ensures.sound
      c.args.id
      c.tile_of-tile.result c.in-Running.core c.task.result.now c.task.ensures c.in-Running.is c.tile_of-tile.ensures,
)
