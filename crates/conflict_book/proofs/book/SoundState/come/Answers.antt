use Rattle.std.proofs.Common.{◌≡◌, [], map, subst}
use Rattle.event_step.specs.event_def.Book.{CountedView}
use Rattle.event_step.specs.event_def.Telling.{ComesTelling}
use Rattle.event_step.proofs.Below.event_basis.Proved.{comes_stays_sound}
use Rattle.conflict_book.specs.Legless.{event_of}
use Rattle.conflict_book.specs.BookViews.{going_book}
use Rattle.conflict_book.proofs.Telling.{comes_keeps_settings}
use Rattle.conflict_book.proofs.book.SoundState.come.Goals as goal

pub invariant_of-self : goal.invariant_of-self
invariant_of-self g c =
    let before : CountedView = record {
      view = c.self.inside.state.view;
      effect = c.self.inside.state.effect;
      steps =
          c.self.inside.steps;
    } in
    comes_stays_sound g.row.N.Denot g.N.Naming.image
    (going_book before (map g.P.Placer.policy c.args.placers.now.items) [])
    (event_of c.args.event) c.come.result _ _ c.is_given.ensures c.self.invariant
    (c.come.ensures [] c.self.inside.steps).0

pub returns-clause-settings : goal.returns-clause-settings
returns-clause-settings g c =
    let before : CountedView = record {
      view = c.self.inside.state.view;
      effect = c.self.inside.state.effect;
      steps =
          c.self.inside.steps;
    } in
    subst (λ (v : CountedView). c.come.new.state.view.settings ≡ v.view.settings) c.self.view_is
    (comes_keeps_settings g.row.N.Denot g.N.Naming.image (going_book before
    (map g.P.Placer.policy c.args.placers.now.items) [])
    (event_of c.args.event) _ _ c.is_given.ensures c.self.invariant c.come.result
    (c.come.ensures [] c.self.inside.steps).0)

pub returns-clause-comes : goal.returns-clause-comes
returns-clause-comes g c taps =
    subst (λ (v : CountedView). ComesTelling {N = g.row.N.Denot}
    (going_book v (map g.P.Placer.policy c.args.placers.now.items) taps) (event_of c.args.event) c.come.result
    c.come.new.state.view (map g.P.Placer.policy c.come.new.placers.items) c.come.new.state.effect)
    c.self.view_is (c.come.ensures taps c.self.inside.steps)
