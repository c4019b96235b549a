use Rattle.std.proofs.Common.{ap, ◌∙◌}
use Rattle.event_basis.specs.spec_state.Effects.{EffectValue}
use Rattle.event_basis.specs.spec_state.Room.{queue_has_room, coalesces}
use Rattle.event_prelude.proofs.Victims.{asks_as_least, full_if_not, none_if_not}
use Rattle.event_prelude.proofs.rooming.make_room.Goals as goal

pub returns-then-queue_has_room-clause-makes : goal.returns-then-queue_has_room-clause-makes
returns-then-queue_has_room-clause-makes g c = (
  queue_has_room (c.queue_has_room.ensures.0 c.if-queue_has_room.true),
  (ap (λ (e : EffectValue). e.back) c.requires.fresh, ap (λ (e : EffectValue). e.spilled) c.requires.fresh),
)

pub returns-then-has_firm-clause-makes : goal.returns-then-has_firm-clause-makes
returns-then-has_firm-clause-makes g c =
    let full = full_if_not c.args.state.now.view c.args.tile c.queue_has_room.result c.queue_has_room.ensures
    c.if-queue_has_room.false in (
      coalesces c.spill.new.state.view full c.spill.ensures.moves.0,
      (
        ap (λ (e : EffectValue). e.back) c.spill.ensures.effect
            ∙ ap (λ (e : EffectValue). e.back) c.requires.fresh,
        c.spill.ensures.moves.1,
      ),
    )

pub take_victim-requires-clause-least : goal.take_victim-requires-clause-least
take_victim-requires-clause-least g c =
    asks_as_least c.args.state.now.view c.args.tile _ (full_if_not c.args.state.now.view c.args.tile c.queue_has_room.result c.queue_has_room.ensures c.if-queue_has_room.false)
    (none_if_not c.args.state.now.view c.args.tile c.has_firm.result c.has_firm.ensures c.if-has_firm.false) c.requires.granted
