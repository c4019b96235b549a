use Rattle.std.proofs.Common.{◌≡◌, ◌∙◌, rules, sym, ap, Some, slice_index_or, None}
use Rattle.spec_rollback.specs.Pulled.{is_made}
use Rattle.spec_rollback.proofs.Seen.{finds_that}
use Rattle.spec_rollback.proofs.cascade.mark_child.Goals as goal

pub returns-then-is_made_by : goal.returns-then-is_made_by
returns-then-is_made_by c =
    let found : slice_index_or c.args.tasks.now.slots c.args.id None ≡ Some c.in-Some.task.now = search rules in
    finds_that _ c.args.id _ _ _ _ _ _
    (ap (is_made c.args.creator) found ∙ sym c.is_made_by.ensures ∙ c.if-is_made_by.true) c.add.ensures
