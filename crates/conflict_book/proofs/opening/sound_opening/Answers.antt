use Rattle.std.proofs.Common.{[], List, arith, map, subst, sym}
use Rattle.std.proofs.lemmas.List.{with_items_is}
use Rattle.event_step.specs.event_def.Opening.{opening_book, IsOpening}
use Rattle.event_step.proofs.Below.event_law.Proved.{opening_is_sound}
use Rattle.conflict_book.proofs.opening.sound_opening.Goals as goal

pub invariant_of-result : goal.invariant_of-result
invariant_of-result g c =
    opening_is_sound g.N.Naming.image c.args.settings _ [] _ c.opening.ensures.image c.requires.valid (c.in_ok-state.ensures.opening [])

pub returns : goal.returns
returns g c taps =
    let stays = with_items_is c.args.placers.now c.opening.new.placers (omega (arith, c.opening.auto.placers, c.as_mut_slice.ensures.len)) in
    subst (λ (ps : List g.row.P.Denot). IsOpening g.N.Naming.image c.args.settings (map g.P.Placer.policy c.args.placers.now.items) taps (opening_book c.in_ok-state.state.view (map g.P.Placer.policy ps) taps)) (sym stays)
    (subst (λ (ps : List g.row.P.Denot). IsOpening g.N.Naming.image c.args.settings (map g.P.Placer.policy ps) taps (opening_book c.in_ok-state.state.view (map g.P.Placer.policy c.opening.new.placers) taps)) c.as_mut_slice.ensures.value
    (c.in_ok-state.ensures.opening taps))
