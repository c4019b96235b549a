use Rattle.std.proofs.Common.{rules, ◌≢◌, ◌+◌, ◌∙◌, ap, refl, sym}
use Rattle.watch_counts.specs.event_def.declared.event.Reply.TheVariants as reply
use Rattle.watch_counts.specs.conflict_book.BookViews.{effect_of, machine_view, view_of}
use Rattle.watch_counts.specs.step_script.Asking.{asks_of}
use Rattle.watch_counts.specs.step_script.Playing.{PlayState}
use Rattle.watch_counts.specs.watch_text.Moments.{task_of}
use Rattle.watch_counts.specs.Capped.{capped_counts}
use Rattle.watch_counts.specs.Counts.{after_attempt, after_told}
use Rattle.watch_counts.specs.Kinds.{kind_done}
use Rattle.watch_counts.specs.Work.{done_by}
use Rattle.watch_play.specs.Made.{play_of}
use Rattle.watch_play.proofs.Lined.{is_told, told_by}
use Rattle.watch_play.proofs.playing.make_act.Goals as goal

pub returns-clause-makes : goal.returns-clause-makes
returns-clause-makes g c =
    let number = c.args.told.now.moments + 1 in
    let old = play_of g.P.Placer.policy g.T.Tap.notes c.args.play.now in
    let new : PlayState = record {
      book = view_of g.P.Placer.policy g.T.Tap.notes c.make-applied.new.book;
      held = c.ask.new.self.held;
    } in
    let leg = c.leg-leg.result.now in
    let about = c.about_act-about in
    let task = task_of about.result in
    let asks = asks_of {N = g.row.N.Denot} c.in-Ok.asked leg in
    let applied = c.make-applied in
    let effect = effect_of applied.new.book in
    let there : applied.result.reply ≢ reply.Memory = search rules in (
      told_by g.row.N.Denot g.N.Naming.image c.args.at number c.args.act old new c.in-Ok.asked leg c.ask.new.self.leg
          task about.result.request applied.result.reply applied.result.aborted effect c.leg-leg.ensures leg,
      is_told g.row.N.Denot g.N.Naming.image c.args.at number c.args.act old new c.in-Ok.asked leg c.ask.new.self.leg
          task about.result.request applied.result.reply applied.result.aborted effect c.leg-leg.ensures
          c.state.result.now.view new c.state.ensures.view refl c.in-Ok.ensures.asks about.ensures.task
          about.ensures.request there applied.ensures.comes applied.ensures.told,
      λ told counts are. c.count_moment.ensures leg counts told (sym c.steps-steps.ensures.value) are
          ∙ (λ i. capped_counts (after_attempt applied.result.reply asks task about.result.request effect
          ((c.done_before-done.ensures leg told
          ∙ ap (λ view. done_by {N = g.row.N.Denot} view asks task) c.state-2.ensures.view) i) (machine_view applied.new.book)
          (after_told c.args.at c.args.act (kind_done c.args.act asks) counts))),
    )
