use Rattle.std.proofs.Common.{[], map, subst}
use Rattle.event_step.specs.event_def.Book.{CountedView}
use Rattle.conflict_book.specs.Halting.{NextComes}
use Rattle.conflict_book.specs.BookViews.{going_book}
use Rattle.conflict_book.proofs.Nexts.{next_comes_sound}
use Rattle.conflict_book.proofs.book.SoundState.come_next.Goals as goal

pub invariant_of-self : goal.invariant_of-self
invariant_of-self g c =
    let before : CountedView = record { view = c.self.inside.state.view; effect = c.self.inside.state.effect; steps = c.self.inside.steps } in
    next_comes_sound g.row.N.Denot g.N.Naming.image (going_book before (map g.P.Placer.policy c.args.placers.now.items) []) c.come_least.result _ _ _
    c.self.invariant (c.come_least.ensures [] c.self.inside.steps)

pub returns-clause-next : goal.returns-clause-next
returns-clause-next g c taps =
    subst (λ (v : CountedView). NextComes g.row.N.Denot g.N.Naming.image (going_book v (map g.P.Placer.policy c.args.placers.now.items) taps) c.come_least.result
    c.come_least.new.state.view (map g.P.Placer.policy c.come_least.new.placers.items) c.come_least.new.state.effect) c.self.view_is
    (c.come_least.ensures taps c.self.inside.steps)
