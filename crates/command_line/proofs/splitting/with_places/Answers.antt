use Rattle.std.proofs.Common.{rules, ap, ap₂, codes, ◌≡◌, ◌∙◌}
use Rattle.std.proofs.lemmas.Result.{IfOk-weaker}
use Rattle.clap.specs.Words.{app_of, rule_of, with_rule, new_rule}
use Rattle.command_line.proofs.splitting.with_places.Goals as goal

pub returns : goal.returns
returns c =
    let kind : rule_of c.new.result ≡ new_rule (codes "kind") = search rules in
    let seed : rule_of c.new-2.result ≡ new_rule (codes "seed") = search rules in
    let size : rule_of c.new-3.result ≡ new_rule (codes "size") = search rules in
    let one = c.in_ok-arg.ensures.shape (search rules) ∙ ap (with_rule (app_of c.args.command)) kind in
    let two = c.in_ok-arg-2.ensures.shape (search rules) ∙ ap₂ with_rule one seed in
    IfOk-weaker c.arg-3.result _ _ (λ r h. h.shape (search rules) ∙ ap₂ with_rule two size) c.arg-3.ensures
