use Rattle.std.proofs.Common.{◌≡◌, ◌++◌, ◌∷◌, [], List, subst}
use Rattle.std.specs.Result.{OnOk}
use Rattle.std.specs.String.{string_bytes}
use Rattle.watch_counts.specs.Texts.{Named, group_text}
use Rattle.watch_counts.proofs.text.put_run.Goals as goal

pub returns : goal.returns
returns c =
    subst (λ (group : List Named). OnOk c.put_group.result (string_bytes c.put_group.new.line
    ≡ string_bytes c.args.line.now ++ group_text c.args.name.now group))
    (λ i. c.named.ensures i ∷ c.named-2.ensures i ∷ c.named-3.ensures i ∷ c.named-4.ensures i ∷ c.named-5.ensures i ∷ [])
    c.put_group.ensures
