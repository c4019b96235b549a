use Rattle.std.proofs.Common.{refl, ◌∙◌}
use Rattle.event_step.proofs.Stepping.{made_quietly}
use Rattle.event_step.proofs.calls.emit_byte.Goals as goal

pub returns : goal.returns
returns g c placers core task takes taps steps =
    made_quietly g.row.N.Denot _ placers taps steps c.args.tile core c.args.id.0 c.args.leg.now task _
    c.requires.goes_on c.requires.asks takes (λ never. never) _ refl 0 _ _ c.record_of.result (
      (c.put_byte.ensures.emits c.args.tile core task takes, record { none = refl; same = refl }),
      c.put_byte.ensures.effect ∙ c.requires.fresh,
    )
    c.record_of.ensures
