use Rattle.std.proofs.Common.{subst, sym}
use Rattle.conflict_book.specs.event_def.declared.event.Event.TheVariants as event
use Rattle.conflict_book.specs.event_def.Telling.{HappensTelling}
use Rattle.conflict_book.specs.BookViews.{effect_of, view_of}
use Rattle.step_script.specs.Asking.{AttemptTells, asks_of}
use Rattle.step_script.proofs.player.Player.make.Goals as goal

pub returns-in-Ready-clause-told : goal.returns-in-Ready-clause-told
returns-in-Ready-clause-told g c =
    let old = view_of g.P.Placer.policy g.T.Tap.notes c.args.book.now in
    let new = view_of g.P.Placer.policy g.T.Tap.notes c.apply_step.new.self in
    subst (λ asked. AttemptTells (asks_of {N = g.row.N.Denot} asked c.args.self.now.leg) c.apply_step.result.reply
    c.apply_step.result.aborted old new (effect_of c.apply_step.new.self)) (sym c.in-Ready.is)
    (subst (λ player. HappensTelling {N = g.row.N.Denot} old (event.Step c.in-Ready.tile c.in-Ready.core player.leg)
    c.apply_step.result.reply c.apply_step.result.aborted new (effect_of c.apply_step.new.self)) c.self.view_is
    c.apply_step.ensures.told)
