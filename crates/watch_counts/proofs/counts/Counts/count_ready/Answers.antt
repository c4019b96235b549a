use Rattle.std.proofs.Common.{◌≡◌, subst, sym}
use Rattle.watch_text.specs.event_def.declared.event.Event.TheVariants as event
use Rattle.watch_text.specs.event_def.declared.event.Reply.{Reply}
use Rattle.watch_text.specs.Moments.{task_of}
use Rattle.watch_counts.specs.Capped.{capped_counts}
use Rattle.watch_counts.specs.Counts.{after_reply}
use Rattle.watch_counts.proofs.counts.Counts.count_ready.Goals as goal

pub returns-in-Ok : goal.returns-in-Ok
returns-in-Ok g c leg done counts steps are =
    let about = c.args.about.now in
    subst (λ (reply : Reply). c.count_leg.new.self ≡ capped_counts (after_reply {N = g.row.N.Denot} reply
    (event.Step c.args.tile c.args.core leg) (task_of about) about.request c.args.effect.now done
    c.args.state.now.view counts)) (sym c.in-Ok.is) (c.count_leg.ensures leg done counts steps are)

pub returns-in-Stall : goal.returns-in-Stall
returns-in-Stall g c leg done counts steps are =
    let about = c.args.about.now in
    subst (λ (reply : Reply). c.count_stalled_step.new.self ≡ capped_counts (after_reply {N = g.row.N.Denot} reply
    (event.Step c.args.tile c.args.core leg) (task_of about) about.request c.args.effect.now done
    c.args.state.now.view counts)) (sym c.in-Stall.is)
    (c.count_stalled_step.ensures _ (c.count_refused.ensures leg counts steps are))
