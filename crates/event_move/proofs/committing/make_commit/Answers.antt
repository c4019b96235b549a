use Rattle.std.proofs.Common.{◌≡◌, ap, subst, ◌∙◌}
use Rattle.std.specs.Prelude.{IfSome}
use Rattle.event_prelude.specs.spec_state.StateValue.{StateValue}
use Rattle.event_prelude.proofs.Below.event_basis.Proved.{below_limit, least_is_committed}
use Rattle.event_move.proofs.Committed.{commit_runs_out, committed}
use Rattle.event_move.proofs.committing.make_commit.Goals as goal

pub commit_task-requires-clause-least : goal.commit_task-requires-clause-least
commit_task-requires-clause-least g c =
    let is = c.requires.finished in
    let by = least_is_committed g.N.Naming.image c.args.state.now.view c.args.id.0 is.0 c.requires.sound is.1 in
    (is.0, is.1, is.2, by)

pub commit_task-requires-clause-more : goal.commit_task-requires-clause-more
commit_task-requires-clause-more g c =
    let is = c.requires.finished in
    below_limit g.N.Naming.image c.args.state.now.view c.args.id.0 is.0 c.requires.sound c.requires.goes_on is.1

pub returns-in-Ok : goal.returns-in-Ok
returns-in-Ok g c =
    let is = c.requires.finished in
    committed g.row.N.Denot c.args.state.now.view c.requires.goes_on c.commit_task.new.state.effect
    (c.commit_task.ensures.effect ∙ c.requires.fresh) c.args.id.0 is.0 is.1 is.2 c.tile_of-tile.result
    c.commit_task.new.state.view c.record_of.result c.in-Ok.ensures.ok.0
    (subst (λ o. IfSome o (λ t. c.tile_of-tile.result ≡ t.tile)) is.1.queued_at.there c.tile_of-tile.ensures) c.record_of.ensures

pub returns-in-Err : goal.returns-in-Err
returns-in-Err g c =
    let is = c.requires.finished in
    commit_runs_out g.row.N.Denot c.args.state.now.view c.requires.goes_on c.commit_task.new.state.effect
    (c.commit_task.ensures.effect ∙ c.requires.fresh) c.args.id.0 is.0 is.1 is.2 c.commit_task.new.state.view
    (ap (λ (s : StateValue). s.view) c.in-Err.ensures.err)
