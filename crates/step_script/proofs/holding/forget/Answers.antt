use Rattle.std.proofs.Common.{rules, not}
use Rattle.std.proofs.lemmas.Fn.{filter_same}
use Rattle.step_script.specs.Playing.{is_held_for}
use Rattle.step_script.proofs.holding.forget.Goals as goal

pub returns : goal.returns
returns g c =
    filter_same _ (λ h. not (is_held_for c.args.tile c.args.core h)) _ (λ x b f' k. search rules) _ _ c.retain.ensures.filtered
