use Rattle.std.proofs.Common.{◌∙◌, sym}
use Rattle.spec_rollback.proofs.Seen.{finds_that}
use Rattle.spec_rollback.proofs.marking.mark_id.Goals as goal

pub returns-then-conflicts : goal.returns-then-conflicts
returns-then-conflicts c =
    finds_that _ c.args.id _ _ _ _ _ _ (sym c.conflicts.ensures ∙ c.if-conflicts.true) c.add.ensures
