use Rattle.std.proofs.Common.{ap, ◌∙◌}
use Rattle.std.proofs.lemmas.Result.{IfOk-weaker}
use Rattle.command_line.specs.App.{command_app, with_limits, with_places, with_sizes}
use Rattle.command_line.proofs.splitting.command.Goals as goal

pub returns : goal.returns
unfolding command_app
returns c =
    IfOk-weaker c.with_places.result _ _ (λ r h. h ∙ ap with_places (c.in_ok-limited.ensures ∙ ap with_limits (c.in_ok-sized.ensures ∙ ap with_sizes c.plain.ensures))) c.with_places.ensures
