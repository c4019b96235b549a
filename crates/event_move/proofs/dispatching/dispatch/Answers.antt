use Rattle.std.proofs.Common.{rules, refl}
use Rattle.event_prelude.specs.event_def.Causes.{AllCoresHeld}
use Rattle.event_move.specs.Idling.{NoIdleIsLeast}
use Rattle.event_move.proofs.Idled.{busy_is_refused, is_busy}
use Rattle.event_move.proofs.dispatching.dispatch.Goals as goal

pub returns-then-has_idle : goal.returns-then-has_idle
returns-then-has_idle g c placers taps steps =
    let view = c.args.state.now.view in
    let held : AllCoresHeld view c.args.tile = search rules in
    let other : NoIdleIsLeast view c.args.tile = search rules in (
      (
        busy_is_refused g.row.N.Denot view c.in-Some.ensures.some.0 c.args.tile
            (is_busy view c.args.tile held other (c.has_idle.ensures.some c.if-has_idle.true)) placers taps steps,
        (refl, refl),
      ),
      c.requires.fresh,
    )
