use Rattle.std.proofs.Common.{ap, sym, subst, ◌∙◌}
use Rattle.std.specs.Prelude.{◌↔◌, IfSome, IsSome, is_some}
use Rattle.event_basis.specs.spec_state.Least.{IsFirm}
use Rattle.event_basis.proofs.Proved.{least_is_firm}
use Rattle.event_prelude.proofs.ending.least_name.Goals as goal

pub unreachable-requires : goal.unreachable-requires
unreachable-requires g c =
    let least = c.requires.least in
    let firm = least_is_firm g.N.Naming.image c.args.state.now.view c.args.id.0 least.0 c.requires.sound least.1 in
    let named = subst (λ o. IfSome o (λ t. IsSome c.name_of.result ↔ IsFirm c.args.state.now.view t)) least.1.queued_at.there c.name_of.ensures.none in
    absurd (cc (sym (named.1 firm) ∙ ap is_some c.in-None.is))
