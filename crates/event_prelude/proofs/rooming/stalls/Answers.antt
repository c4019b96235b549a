use Rattle.event_prelude.proofs.rooming.stalls.Goals as goal

pub returns-then-has_firm-clause-stalls : goal.returns-then-has_firm-clause-stalls
returns-then-has_firm-clause-stalls g c =
    let moves = c.has_firm.ensures.0 c.if-has_firm.true in
    (λ no. absurd (cc (no)), λ stalls. absurd (stalls.none_moves moves.0 (moves.1, moves.2)))
