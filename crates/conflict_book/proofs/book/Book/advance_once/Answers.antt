use Rattle.std.proofs.Common.{inl, map, subst, sym}
use Rattle.event_step.specs.spec_law.Sound.{Sound}
use Rattle.event_step.specs.event_def.Book.{CountedView}
use Rattle.event_step.specs.event_def.End.{HasEnd}
use Rattle.event_step.specs.event_def.Telling.{AdvanceTelling}
use Rattle.event_step.specs.event_def.declared.event.Came.{Came}
use Rattle.conflict_book.specs.Halting.{NextComes}
use Rattle.conflict_book.specs.BookViews.{effect_of, going_book, view_of}
use Rattle.conflict_book.proofs.Nexts.{parts_made, parts_refused, parts_stay}
use Rattle.conflict_book.proofs.Telling.{forgot_effect, parts_forgot}
use Rattle.conflict_book.proofs.book.Book.advance_once.Goals as goal

pub returns-then-self : goal.returns-then-self
returns-then-self g c = (
  inl (
    c.if-self.true,
    parts_forgot (map g.P.Placer.policy c.args.self.now.placers.items) (map g.T.Tap.notes c.args.self.now.taps.items)
        c.args.self.now.stopped c.args.self.now.sound c.forget.new.self c.forget.ensures,
  ),
  forgot_effect c.args.self.now.sound c.forget.new.self c.forget.ensures,
)

pub returns-in-Over : goal.returns-in-Over
returns-in-Over g c =
    let over = c.in-Over.ensures.next (map g.T.Tap.notes c.args.self.now.taps.items) in (
      (
        c.if-self.false,
        subst (λ (s : CountedView). HasEnd s.view c.in-Over.end) c.forget.ensures over.0,
        parts_stay g.row.N.Denot g.N.Naming.image c.args.self.now.sound c.forget.new.self c.forget.ensures
            (map g.P.Placer.policy c.args.self.now.placers.items) (map g.T.Tap.notes c.args.self.now.taps.items)
            c.args.self.now.stopped c.if-self.false c.come_next.new.self.view
            (map g.P.Placer.policy c.come_next.new.placers.items) c.come_next.new.self.steps c.come_next.ensures.steps
            over.1,
      ),
      over.2,
    )

pub returns-in-Came-Made : goal.returns-in-Came-Made
returns-in-Came-Made g c =
    let old = view_of g.P.Placer.policy g.T.Tap.notes c.args.self.now in
    let new = view_of g.P.Placer.policy g.T.Tap.notes c.note.new.self in
    let taps = map g.T.Tap.notes c.args.self.now.taps.items in
    let placers = map g.P.Placer.policy c.args.self.now.placers.items in
    let after = map g.P.Placer.policy c.come_next.new.placers.items in
    subst (λ a. AdvanceTelling g.row.N.Denot g.N.Naming.image old a new (effect_of c.note.new.self))
    (sym c.advance_of.ensures)
    (parts_made g.row.N.Denot g.N.Naming.image c.args.self.now.sound c.forget.new.self c.forget.ensures placers taps
    c.args.self.now.stopped c.if-self.false c.come_next.new.self.view after c.come_next.new.self.steps
    c.come_next.ensures.steps c.in-Came-Made.seen _ c.come_next.new.self.effect _ c.note.ensures.noted
    c.note.ensures.effect
    (subst (λ (came : Came). NextComes g.row.N.Denot g.N.Naming.image (going_book c.forget.new.self placers taps) came
    c.come_next.new.self.view after c.come_next.new.self.effect) c.in-Came-Made.field-0-is
    (c.in-Came-Made.ensures.next taps)))

pub returns-in-Came-Refused : goal.returns-in-Came-Refused
returns-in-Came-Refused g c =
    let taps = map g.T.Tap.notes c.args.self.now.taps.items in
    let placers = map g.P.Placer.policy c.args.self.now.placers.items in
    let after = map g.P.Placer.policy c.come_next.new.placers.items in
    parts_refused g.row.N.Denot g.N.Naming.image c.args.self.now.sound c.forget.new.self c.forget.ensures placers taps
    c.args.self.now.stopped c.if-self.false c.come_next.new.self.view after c.come_next.new.self.steps
    c.come_next.ensures.steps
    (subst (λ (s : CountedView). Sound g.N.Naming.image s.view) c.forget.ensures c.is_sound.ensures.sound)
    c.in-Came-Refused.field-0-0 _
    (subst (λ (came : Came). NextComes g.row.N.Denot g.N.Naming.image (going_book c.forget.new.self placers taps) came
    c.come_next.new.self.view after c.come_next.new.self.effect) c.in-Came-Refused.field-0-is
    (c.in-Came-Refused.ensures.next taps))
