use Rattle.std.proofs.Common.{rules}
use Rattle.spec_rollback.proofs.Pulling.{children_found, finds_among}
use Rattle.spec_rollback.proofs.cascade.Cascade.mark_children.Goals as goal

pub returns-in-Some : goal.returns-in-Some
returns-in-Some c =
    let cascade = c.args.self.now in
    finds_among _ _ _ _ _ _ _ _ _
    (children_found cascade.tasks.now.slots cascade.children.now c.args.creator _ c.in-Some.ids.now c.requires.noted
    (c.in-Some.ensures.complete.0 (search rules)).0 c.in-Some.ensures.ids c.requires.marks) c.mark_noted.ensures
