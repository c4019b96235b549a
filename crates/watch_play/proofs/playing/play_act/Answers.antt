use Rattle.std.proofs.Common.{rules, ◌≢◌, ◌+◌, refl}
use Rattle.std.specs.String.{string_bytes}
use Rattle.watch_counts.specs.event_def.declared.event.Reply.TheVariants as reply
use Rattle.watch_counts.specs.conflict_book.BookViews.{effect_of, view_of}
use Rattle.watch_counts.specs.step_script.Playing.{PlayState}
use Rattle.watch_counts.specs.step_script.Asking.{asks_of}
use Rattle.watch_counts.specs.watch_text.Moments.{task_of}
use Rattle.watch_play.specs.Made.{play_of}
use Rattle.watch_play.proofs.Lined.{is_told, line_is, told_by}
use Rattle.watch_play.proofs.playing.play_act.Goals as goal

pub returns-in-Ok-tell_rest-clause-comes : goal.returns-in-Ok-tell_rest-clause-comes
returns-in-Ok-tell_rest-clause-comes g c =
    let number = c.args.printer.now.told.moments + 1 in
    let old = play_of g.P.Placer.policy g.T.Tap.notes c.args.play.now in
    let new : PlayState = record {
      book = view_of g.P.Placer.policy g.T.Tap.notes c.make-applied.new.book;
      held = c.ask.new.self.held;
    } in
    let leg = c.leg-leg.result.now in
    let about = c.about_act-about in
    let task = task_of about.result in
    let applied = c.make-applied in
    let effect = effect_of applied.new.book in
    let there : applied.result.reply ≢ reply.Memory = search rules in (
      told_by g.row.N.Denot g.N.Naming.image c.args.at number c.args.act old new c.in-Ok.asked leg
          c.ask.new.self.leg task
          about.result.request applied.result.reply applied.result.aborted effect c.leg-leg.ensures leg,
      is_told g.row.N.Denot g.N.Naming.image c.args.at number c.args.act old new c.in-Ok.asked leg
          c.ask.new.self.leg task
          about.result.request applied.result.reply applied.result.aborted effect c.leg-leg.ensures
          c.state.result.now.view
          new c.state.ensures.view refl
          c.in-Ok.ensures.asks about.ensures.task about.ensures.request there applied.ensures.comes
          applied.ensures.told,
      line_is g.row.N.Denot g.N.Naming.image c.args.at number c.args.act old new
          (asks_of {N = g.row.N.Denot} c.in-Ok.asked leg) task about.result.request applied.result.reply
          applied.result.aborted effect c.args.telling (string_bytes c.clear.new.self)
          (string_bytes c.put_front.new.line) (string_bytes c.tell_rest.new.line) _ c.requires.lines
          (search rules) (search rules) (search rules) (c.in-Ok-tell_rest.ensures leg),
    )

pub returns-in-Err-clause-comes : goal.returns-in-Err-clause-comes
returns-in-Err-clause-comes g c =
    let number = c.args.printer.now.told.moments + 1 in
    let old = play_of g.P.Placer.policy g.T.Tap.notes c.args.play.now in
    let new : PlayState = record {
      book = view_of g.P.Placer.policy g.T.Tap.notes c.make-applied.new.book;
      held = c.ask.new.self.held;
    } in
    let leg = c.leg-leg.result.now in
    let about = c.about_act-about in
    let task = task_of about.result in
    let applied = c.make-applied in
    let effect = effect_of applied.new.book in
    let there : applied.result.reply ≢ reply.Memory = search rules in (
      told_by g.row.N.Denot g.N.Naming.image c.args.at number c.args.act old new c.in-Ok.asked leg
          c.ask.new.self.leg task
          about.result.request applied.result.reply applied.result.aborted effect c.leg-leg.ensures leg,
      is_told g.row.N.Denot g.N.Naming.image c.args.at number c.args.act old new c.in-Ok.asked leg
          c.ask.new.self.leg task
          about.result.request applied.result.reply applied.result.aborted effect c.leg-leg.ensures
          c.state.result.now.view
          new c.state.ensures.view refl
          c.in-Ok.ensures.asks about.ensures.task about.ensures.request there applied.ensures.comes
          applied.ensures.told,
    )
