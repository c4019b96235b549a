use Rattle.std.proofs.Common.{◌∙◌, ◌+◌, length}
use Rattle.std.specs.Prelude.{fold}
use Rattle.watch_text.specs.event_def.declared.event.Event.TheVariants as event
use Rattle.watch_text.specs.Moments.{task_of}
use Rattle.watch_counts.specs.declared.acts.ActKind.TheVariants as kinds
use Rattle.watch_counts.specs.Capped.{capped_counts}
use Rattle.watch_counts.specs.Counts.{after_own, after_taken, with_standing}
use Rattle.watch_counts.specs.Kinds.{one_more}
use Rattle.watch_counts.proofs.counts.Counts.count_leg.Goals as goal

pub returns : goal.returns
returns g c leg done counts steps are =
    let about = c.args.about.now in
    let view = c.args.state.now.view in
    c.stand.ensures _ (c.count_back.ensures _ (c.count_step.ensures leg _ steps (c.count_made.ensures counts are)))
    ∙ (λ i. capped_counts (with_standing view (fold (after_taken (c.cause_in_step.ensures i))
    (after_own {N = g.row.N.Denot} (event.Step c.args.tile c.args.core leg) (task_of about) about.request done view
    (record counts {
      events = counts.events + 1;
      made = one_more kinds.Step counts.made;
      spilled = counts.spilled + length (c.spilled.ensures i);
    })) (c.back.ensures i))))
