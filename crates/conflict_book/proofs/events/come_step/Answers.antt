use Rattle.std.proofs.Common.{arith}
use Rattle.std.proofs.lemmas.List.{with_items_is}
use Rattle.event_step.specs.event_def.declared.event.Event.TheVariants as event
use Rattle.event_step.specs.event_def.Telling.{ComesTelling}
use Rattle.event_step.specs.event_def.Book.{book_of}
use Rattle.conflict_book.proofs.Slices.{as_slice}
use Rattle.conflict_book.proofs.events.come_step.Goals as goal

pub returns : goal.returns
returns g c taps steps =
    as_slice g.P.Placer.policy c.args.placers.now.items c.as_mut_slice.result.now c.step.new.placers _
    (λ before after. ComesTelling {N = g.row.N.Denot} (book_of c.args.state.now.view before taps steps)
    (event.Step c.args.tile c.args.core c.args.leg.now) c.step.result c.step.new.state.view after
    c.step.new.state.effect)
    c.as_mut_slice.ensures.value
    (with_items_is c.args.placers.now c.step.new.placers (omega (
      arith,
      c.step.auto.placers,
      c.as_mut_slice.ensures.len,
    )))
    (c.step.ensures taps steps)
