use Rattle.std.proofs.Common.{rules, ap, ap₂, codes, ◌≡◌, ◌∙◌}
use Rattle.std.proofs.lemmas.Result.{IfOk-weaker}
use Rattle.clap.specs.Words.{app_of, rule_of, with_rule}
use Rattle.command_line.specs.App.{option_rule}
use Rattle.command_line.proofs.splitting.with_sizes.Goals as goal

pub returns : goal.returns
returns c =
    let tiles : rule_of c.option.result ≡ option_rule (codes "tiles") = search rules in
    let cores : rule_of c.option-2.result ≡ option_rule (codes "cores") = search rules in
    let task_queue : rule_of c.option-3.result ≡ option_rule (codes "task-queue") = search rules in
    let commit_queue : rule_of c.option-4.result ≡ option_rule (codes "commit-queue") = search rules in
    let line : rule_of c.option-5.result ≡ option_rule (codes "line") = search rules in
    let one = c.in_ok-arg.ensures.shape (search rules) ∙ ap (with_rule (app_of c.args.command)) tiles in
    let two = c.in_ok-arg-2.ensures.shape (search rules) ∙ ap₂ with_rule one cores in
    let three = c.in_ok-arg-3.ensures.shape (search rules) ∙ ap₂ with_rule two task_queue in
    let four = c.in_ok-arg-4.ensures.shape (search rules) ∙ ap₂ with_rule three commit_queue in
    IfOk-weaker c.arg-5.result _ _ (λ r h. h.shape (search rules) ∙ ap₂ with_rule four line) c.arg-5.ensures
