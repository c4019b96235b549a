use Rattle.std.proofs.Common.{arith, subst}
use Rattle.std.proofs.lemmas.List.{with_items_is}
use Rattle.event_step.specs.spec_state.Least.{IsLeast}
use Rattle.event_step.proofs.Below.event_basis.Proved.{trapped_is_over}
use Rattle.conflict_book.specs.Halting.{NextComes}
use Rattle.conflict_book.proofs.Slices.{as_slice}
use Rattle.event_step.specs.event_def.Book.{book_of}
use Rattle.conflict_book.proofs.advancing.come_least.Goals as goal

pub unreachable-requires : goal.unreachable-requires
unreachable-requires g c =
    c.requires.goes_on (trapped_is_over g.N.Naming.image c.args.state.now.view _ c.requires.sound (subst (IsLeast c.args.state.now.view) c.in-Trapped.is c.requires.least))

pub returns-in-Running : goal.returns-in-Running
returns-in-Running g c taps steps =
    as_slice g.P.Placer.policy c.args.placers.now.items c.as_mut_slice.result.now c.step_least.new.placers _
    (λ before after. NextComes g.row.N.Denot g.N.Naming.image (book_of c.args.state.now.view before taps steps) c.step_least.result c.step_least.new.state.view after c.step_least.new.state.effect)
    c.as_mut_slice.ensures.value
    (with_items_is c.args.placers.now c.step_least.new.placers (omega (arith, c.step_least.auto.placers, c.as_mut_slice.ensures.len)))
    (c.step_least.ensures taps steps)
