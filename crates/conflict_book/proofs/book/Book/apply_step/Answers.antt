use Rattle.std.proofs.Common.{map}
use Rattle.event_step.specs.event_def.declared.event.Event.TheVariants as event
use Rattle.conflict_book.proofs.Telling.{part_made, part_refused, stopped_telling}
use Rattle.conflict_book.proofs.book.Book.apply_step.Goals as goal

pub returns-in-Made-clause-happens : goal.returns-in-Made-clause-happens
returns-in-Made-clause-happens g c =
    (part_made c.args.self.now.sound c.forget.new.self c.forget.ensures
    (map g.P.Placer.policy c.args.self.now.placers.items)
    (map g.T.Tap.notes c.args.self.now.taps.items) c.args.self.now.stopped c.if-self.false
    (event.Step c.args.tile c.args.core c.args.leg.now) c.come_step.new.self.view
    (map g.P.Placer.policy c.come_step.new.placers.items)
    c.come_step.new.self.steps c.come_step.ensures.steps c.in-Made.seen _ c.come_step.new.self.effect _
    c.note.ensures.noted
    c.note.ensures.effect (c.in-Made.ensures.comes (map g.T.Tap.notes c.args.self.now.taps.items))).0

pub returns-in-Made-clause-told : goal.returns-in-Made-clause-told
returns-in-Made-clause-told g c =
    part_made c.args.self.now.sound c.forget.new.self c.forget.ensures
    (map g.P.Placer.policy c.args.self.now.placers.items)
    (map g.T.Tap.notes c.args.self.now.taps.items) c.args.self.now.stopped c.if-self.false
    (event.Step c.args.tile c.args.core c.args.leg.now) c.come_step.new.self.view
    (map g.P.Placer.policy c.come_step.new.placers.items)
    c.come_step.new.self.steps c.come_step.ensures.steps c.in-Made.seen _ c.come_step.new.self.effect _
    c.note.ensures.noted
    c.note.ensures.effect (c.in-Made.ensures.comes (map g.T.Tap.notes c.args.self.now.taps.items))

pub returns-in-Refused-clause-happens : goal.returns-in-Refused-clause-happens
returns-in-Refused-clause-happens g c =
    (part_refused c.args.self.now.sound c.forget.new.self c.forget.ensures
    (map g.P.Placer.policy c.args.self.now.placers.items)
    (map g.T.Tap.notes c.args.self.now.taps.items) c.args.self.now.stopped c.if-self.false
    (event.Step c.args.tile c.args.core c.args.leg.now) c.come_step.new.self.view
    (map g.P.Placer.policy c.come_step.new.placers.items)
    c.come_step.new.self.steps c.come_step.ensures.steps c.in-Refused.reply _
    (c.in-Refused.ensures.comes (map g.T.Tap.notes c.args.self.now.taps.items))).0

pub returns-in-Refused-clause-told : goal.returns-in-Refused-clause-told
returns-in-Refused-clause-told g c =
    part_refused c.args.self.now.sound c.forget.new.self c.forget.ensures
    (map g.P.Placer.policy c.args.self.now.placers.items)
    (map g.T.Tap.notes c.args.self.now.taps.items) c.args.self.now.stopped c.if-self.false
    (event.Step c.args.tile c.args.core c.args.leg.now) c.come_step.new.self.view
    (map g.P.Placer.policy c.come_step.new.placers.items)
    c.come_step.new.self.steps c.come_step.ensures.steps c.in-Refused.reply _
    (c.in-Refused.ensures.comes (map g.T.Tap.notes c.args.self.now.taps.items))

pub returns-then-self-clause-happens : goal.returns-then-self-clause-happens
returns-then-self-clause-happens g c =
    (stopped_telling {N = g.row.N.Denot} c.args.self.now.sound c.forget.new.self c.forget.ensures
    (map g.P.Placer.policy c.args.self.now.placers.items)
    (map g.T.Tap.notes c.args.self.now.taps.items) c.args.self.now.stopped c.if-self.true
    (event.Step c.args.tile c.args.core c.args.leg.now)).0

pub returns-then-self-clause-told : goal.returns-then-self-clause-told
returns-then-self-clause-told g c =
    stopped_telling {N = g.row.N.Denot} c.args.self.now.sound c.forget.new.self c.forget.ensures
    (map g.P.Placer.policy c.args.self.now.placers.items)
    (map g.T.Tap.notes c.args.self.now.taps.items) c.args.self.now.stopped c.if-self.true
    (event.Step c.args.tile c.args.core c.args.leg.now)
