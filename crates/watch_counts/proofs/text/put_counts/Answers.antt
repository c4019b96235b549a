use Rattle.std.proofs.Common.{◌≡◌, ◌∙◌, ℕ, ◌++◌, List, subst}
use Rattle.std.specs.Result.{OnOk}
use Rattle.std.specs.String.{string_bytes}
use Rattle.watch_counts.specs.Texts.{counts_text}
use Rattle.watch_counts.specs.Work.{work_left}
use Rattle.watch_counts.proofs.Told.{told_capped}
use Rattle.watch_counts.proofs.text.put_counts.Goals as goal

pub returns : goal.returns
returns g c counts are =
    subst
    (λ (text : List ℕ). OnOk c.put_numbers.result (string_bytes c.put_numbers.new.line
    ≡ string_bytes c.args.line.now ++ text))
    ((λ i. counts_text (are i) (c.work_left.ensures i)) ∙ told_capped counts (work_left c.args.state.now.view))
    c.put_numbers.ensures
