use Rattle.conflict_book.specs.event_def.declared.event.Event.TheVariants as event
use Rattle.step_script.proofs.Attempts.{advance_asks, least_commit, least_dispatch, least_split, none_trapped}
use Rattle.step_script.proofs.asking.ask_advance.Goals as goal

pub unreachable-requires : goal.unreachable-requires
unreachable-requires g c =
    none_trapped g.N.Naming.image _ c.is_sound.ensures.sound c.in-Some-Trapped.field-0 c.in-Some-Trapped.ensures.some
    c.in-Some-Trapped.field-0-0 c.in-Some-Trapped.field-0-is

pub returns-in-Some-Idle-clause-asks : goal.returns-in-Some-Idle-clause-asks
returns-in-Some-Idle-clause-asks g c =
    advance_asks g.row.N.Denot g.N.Naming.image _ (event.Dispatch c.tile_of.result)
    (least_dispatch g.N.Naming.image _ c.is_sound.ensures.sound c.in-Some-Idle.field-0 c.in-Some-Idle.ensures.some
    g.row.N.Denot c.state.result.now.view c.state.ensures.view c.in-Some-Idle.id c.tile_of.result
    c.in-Some-Idle.field-0-is c.tile_of.ensures)

pub returns-in-Some-Finished-clause-asks : goal.returns-in-Some-Finished-clause-asks
returns-in-Some-Finished-clause-asks g c =
    advance_asks g.row.N.Denot g.N.Naming.image _ event.Commit
    (least_commit g.N.Naming.image _ c.is_sound.ensures.sound c.in-Some-Finished.field-0
    c.in-Some-Finished.ensures.some g.row.N.Denot c.in-Some-Finished.field-0-0 c.in-Some-Finished.field-0-is)

pub returns-in-Some-Spilled-clause-asks : goal.returns-in-Some-Spilled-clause-asks
returns-in-Some-Spilled-clause-asks g c =
    advance_asks g.row.N.Denot g.N.Naming.image _ (event.Split c.in-Some-Spilled.tile)
    (least_split g.N.Naming.image _ c.is_sound.ensures.sound c.in-Some-Spilled.field-0
    c.in-Some-Spilled.ensures.some g.row.N.Denot c.in-Some-Spilled.tile c.in-Some-Spilled.field-0-is)
