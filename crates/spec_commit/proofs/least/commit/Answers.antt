use Rattle.std.proofs.Common.{ap, sym, subst, ◌∙◌}
use Rattle.std.proofs.lemmas.Option.{same_Some}
use Rattle.std.specs.Prelude.{is_some}
use Rattle.spec_state.specs.View.{task_at}
use Rattle.spec_state.specs.StateValue.{CoversOutput}
use Rattle.spec_commit.specs.Committing.{HasCommittedCreator}
use Rattle.spec_commit.proofs.Finishing.{one_finished}
use Rattle.spec_commit.proofs.least.commit.Goals as goal

pub task-requires : goal.task-requires
task-requires g c = record { live = ap is_some c.finished_least-id.ensures.1.queued_at.there }

pub commit_task-requires-clause-least : goal.commit_task-requires-clause-least
commit_task-requires-clause-least g c =
    let is = c.finished_least-id.ensures in
    let same = same_Some _ is.0 (sym c.task.ensures ∙ is.1.queued_at.there) in (
      is.0,
      is.1,
      is.2,
      subst HasCommittedCreator same
          (c.has_committed_creator.ensures.0 c.if-has_committed_creator.true),
    )

pub returns-then-has_committed_creator-clause-enough : goal.returns-then-has_committed_creator-clause-enough
returns-then-has_committed_creator-clause-enough g c id task least finished committed covers =
    let is = c.finished_least-id.ensures in
    let one = one_finished g.N.Naming.image.data_size c.args.state.now.view c.is_stored.ensures
    c.finished_least-id.result.0 id
    is.0 task is.1 is.2 least finished in
    c.commit_task.ensures.enough (subst (CoversOutput c.args.state.now) one covers)

pub returns-else-has_committed_creator-clause-enough : goal.returns-else-has_committed_creator-clause-enough
returns-else-has_committed_creator-clause-enough g c id task least finished committed covers =
    let is = c.finished_least-id.ensures in
    let one = one_finished g.N.Naming.image.data_size c.args.state.now.view c.is_stored.ensures
    c.finished_least-id.result.0 id
    is.0 task is.1 is.2 least finished in
    let same = same_Some task _ (sym least.queued_at.there ∙ ap (task_at c.args.state.now.view) one ∙ c.task.ensures) in
    absurd (cc (sym
    (c.has_committed_creator.ensures.1 (subst HasCommittedCreator same committed)) ∙ c.if-has_committed_creator.false))
