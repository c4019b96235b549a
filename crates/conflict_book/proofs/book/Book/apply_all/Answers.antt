use Rattle.std.proofs.Common.{List, ◌≡◌, arith, ap, get_or, length, subst, sym, take, ◌∙◌, ◌+◌}
use Rattle.event_step.specs.event_def.declared.event.Applied.{Applied}
use Rattle.event_step.specs.event_def.declared.event.Event.{Event}
use Rattle.event_step.specs.event_def.Happens.{HappenAll}
use Rattle.conflict_book.specs.BookViews.{view_of}
use Rattle.conflict_book.proofs.Lists.{longer, one_more}
use Rattle.conflict_book.proofs.book.Book.apply_all.Goals as goal

pub loop-event-preserved : goal.loop-event-preserved
loop-event-preserved g c =
    let old = view_of g.P.Placer.policy g.T.Tap.notes c.args.self.now in
    let new = view_of g.P.Placer.policy g.T.Tap.notes c.apply_kept.new.self in
    let held = c.loop-event.invariant in
    let inside = c.loop-event-test.true in
    let same = ap length c.deref-event-items.ensures.value in
    record {
      happen =
          subst (λ (told : List Applied). HappenAll old (take (c.loop-event.event-index + 1) c.args.events.items) told new) (sym c.push_answer.ensures.items)
          (one_more g.row.N.Denot old (view_of g.P.Placer.policy g.T.Tap.notes c.loop-event.self) new c.args.events.items c.loop-event.event-index c.event-item.result c.loop-event.answers.items c.apply_kept.result
          (omega (arith, inside, same))
          (subst (λ (es : List (Event g.row.N.Denot)). get_or es c.loop-event.event-index c.event-item.result ≡ c.event-item.result) c.deref-event-items.ensures.value (sym c.event-item.is))
          held.happen c.apply_kept.ensures.happens);
      settings = c.apply_kept.ensures.settings ∙ held.settings;
      count =
          longer c.loop-event.answers.items c.push_answer.new.answers.items c.apply_kept.result c.loop-event.event-index c.push_answer.ensures.items held.count;
      spare = (let had = held.spare in let more = c.push_answer.ensures.spare in omega (arith, had, more));
    }
