use Rattle.std.proofs.Common.{◌≡◌, Some, inl, inr, refl, subst}
use Rattle.std.specs.Prelude.{IfSome}
use Rattle.spec_state.specs.Groups.{live_creator}
use Rattle.spec_commit.proofs.Victims.{read_firm, read_loose}
use Rattle.spec_commit.proofs.victim.room_victim.Goals as goal

pub returns-then-firm : goal.returns-then-firm
returns-then-firm g c =
    let v = c.victim_of-victim.ensures in
    let firm = read_firm c.args.state.now.view _ v.0 c.firm.result v.1.there c.firm.ensures c.if-firm.true in
    (c.victim_of-victim.result.0, v.0, v.1, inl (firm, refl))

pub returns-else-firm : goal.returns-else-firm
returns-else-firm g c =
    let v = c.victim_of-victim.ensures in
    let loose = read_loose c.args.state.now.view _ v.0 c.firm.result v.1.there c.firm.ensures c.if-firm.false in
    let by = subst (λ o. IfSome o (λ t. live_creator t.creator ≡ Some c.creator_of.result.0))
    v.1.there c.creator_of.ensures in
    (c.victim_of-victim.result.0, v.0, v.1, inr (loose, by))
