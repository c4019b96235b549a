use Rattle.std.proofs.Common.{rules, ◌≡◌, get_or, Some, None, ap, sym, ◌∙◌}
use Rattle.std.specs.List.{position}
use Rattle.step_script.specs.Playing.{is_held_for, without_held_leg}
use Rattle.step_script.proofs.HeldLegs.{held-at_place, held-no_place, without_held_leg-at_place, without_unheld}
use Rattle.step_script.proofs.holding.hand_out.Goals as goal

pub returns-in_err-place-clause-leg : goal.returns-in_err-place-clause-leg
returns-in_err-place-clause-leg g c =
    let none : position (is_held_for c.args.tile c.args.core) c.args.held.now.items ≡ None = search rules in
    let told : c.from_residual.result ≡ None = search rules in
    told ∙ sym (held-no_place c.args.tile c.args.core c.args.held.now.items none)

pub returns-in_err-place-clause-rest : goal.returns-in_err-place-clause-rest
returns-in_err-place-clause-rest g c =
    let none : position (is_held_for c.args.tile c.args.core) c.args.held.now.items ≡ None = search rules in
    sym (without_unheld c.args.tile c.args.core c.args.held.now.items (held-no_place c.args.tile c.args.core c.args.held.now.items none))

pub returns-clause-leg : goal.returns-clause-leg
returns-clause-leg g c =
    let held = c.args.held.now.items in
    let place = c.in_ok-place.place in
    let one = c.remove-found.result in
    let found : position (is_held_for c.args.tile c.args.core) held ≡ Some place = search rules in
    let same : get_or held place one ≡ one = search rules in
    let leg : c.found.inside.leg ≡ one.leg = search rules in
    ap Some (leg ∙ sym (ap (λ h. h.leg) same)) ∙ sym (held-at_place c.args.tile c.args.core held place one found)

pub returns-clause-rest : goal.returns-clause-rest
returns-clause-rest g c =
    let held = c.args.held.now.items in
    let place = c.in_ok-place.place in
    let found : position (is_held_for c.args.tile c.args.core) held ≡ Some place = search rules in
    c.forget.ensures
    ∙ ap (λ left. without_held_leg c.args.tile c.args.core left) c.remove-found.ensures.items
    ∙ without_held_leg-at_place c.args.tile c.args.core held place c.remove-found.result found
