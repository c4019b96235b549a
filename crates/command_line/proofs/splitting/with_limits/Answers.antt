use Rattle.std.proofs.Common.{rules, ap, ap₂, codes, ◌≡◌, ◌∙◌}
use Rattle.std.proofs.lemmas.Result.{IfOk-weaker}
use Rattle.clap.specs.Words.{app_of, rule_of, with_rule}
use Rattle.command_line.specs.App.{option_rule}
use Rattle.command_line.proofs.splitting.with_limits.Goals as goal

pub returns : goal.returns
returns c =
    let quantum : rule_of c.option.result ≡ option_rule (codes "quantum") = search rules in
    let workers : rule_of c.option-2.result ≡ option_rule (codes "workers") = search rules in
    let commits : rule_of c.option-3.result ≡ option_rule (codes "commits") = search rules in
    let budget : rule_of c.option-4.result ≡ option_rule (codes "budget") = search rules in
    let phase : rule_of c.option-5.result ≡ option_rule (codes "phase") = search rules in
    let one = c.in_ok-arg.ensures.shape (search rules) ∙ ap (with_rule (app_of c.args.command)) quantum in
    let two = c.in_ok-arg-2.ensures.shape (search rules) ∙ ap₂ with_rule one workers in
    let three = c.in_ok-arg-3.ensures.shape (search rules) ∙ ap₂ with_rule two commits in
    let four = c.in_ok-arg-4.ensures.shape (search rules) ∙ ap₂ with_rule three budget in
    IfOk-weaker c.arg-5.result _ _ (λ r h. h.shape (search rules) ∙ ap₂ with_rule four phase) c.arg-5.ensures
