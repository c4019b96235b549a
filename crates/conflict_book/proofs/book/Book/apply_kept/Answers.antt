use Rattle.std.proofs.Common.{subst, sym}
use Rattle.event_step.specs.event_def.declared.event.Event.{Event}
use Rattle.event_step.specs.event_def.Telling.{HappensTelling}
use Rattle.conflict_book.specs.BookViews.{effect_of, view_of}
use Rattle.conflict_book.proofs.book.Book.apply_kept.Goals as goal

pub returns-in-Step-clause-told : goal.returns-in-Step-clause-told
returns-in-Step-clause-told g c =
    subst (λ (e : Event g.row.N.Denot). HappensTelling (view_of g.P.Placer.policy g.T.Tap.notes c.args.self.now) e
    c.apply_step.result.reply c.apply_step.result.aborted (view_of g.P.Placer.policy g.T.Tap.notes
    c.apply_step.new.self)
    (effect_of c.apply_step.new.self)) (sym c.in-Step.is) c.apply_step.ensures.told

pub returns-in-Dispatch-clause-told : goal.returns-in-Dispatch-clause-told
returns-in-Dispatch-clause-told g c =
    subst (λ (e : Event g.row.N.Denot). HappensTelling (view_of g.P.Placer.policy g.T.Tap.notes c.args.self.now) e
    c.apply_legless.result.reply c.apply_legless.result.aborted (view_of g.P.Placer.policy g.T.Tap.notes
    c.apply_legless.new.self)
    (effect_of c.apply_legless.new.self)) (sym c.in-Dispatch.is) c.apply_legless.ensures.told

pub returns-in-Abort-clause-told : goal.returns-in-Abort-clause-told
returns-in-Abort-clause-told g c =
    subst (λ (e : Event g.row.N.Denot). HappensTelling (view_of g.P.Placer.policy g.T.Tap.notes c.args.self.now) e
    c.apply_legless-in-Abort.result.reply c.apply_legless-in-Abort.result.aborted
    (view_of g.P.Placer.policy g.T.Tap.notes c.apply_legless-in-Abort.new.self)
    (effect_of c.apply_legless-in-Abort.new.self)) (sym c.in-Abort.is) c.apply_legless-in-Abort.ensures.told

pub returns-in-Coalesce-clause-told : goal.returns-in-Coalesce-clause-told
returns-in-Coalesce-clause-told g c =
    subst (λ (e : Event g.row.N.Denot). HappensTelling (view_of g.P.Placer.policy g.T.Tap.notes c.args.self.now) e
    c.apply_legless-in-Coalesce.result.reply c.apply_legless-in-Coalesce.result.aborted
    (view_of g.P.Placer.policy g.T.Tap.notes c.apply_legless-in-Coalesce.new.self)
    (effect_of c.apply_legless-in-Coalesce.new.self)) (sym c.in-Coalesce.is) c.apply_legless-in-Coalesce.ensures.told

pub returns-in-Split-clause-told : goal.returns-in-Split-clause-told
returns-in-Split-clause-told g c =
    subst (λ (e : Event g.row.N.Denot). HappensTelling (view_of g.P.Placer.policy g.T.Tap.notes c.args.self.now) e
    c.apply_legless-in-Split.result.reply c.apply_legless-in-Split.result.aborted
    (view_of g.P.Placer.policy g.T.Tap.notes c.apply_legless-in-Split.new.self)
    (effect_of c.apply_legless-in-Split.new.self)) (sym c.in-Split.is) c.apply_legless-in-Split.ensures.told
