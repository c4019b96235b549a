use Rattle.std.proofs.Common.{ap, subst}
use Rattle.std.specs.Prelude.{is_some}
use Rattle.event_prelude.specs.spec_state.Least.{IsLeast}
use Rattle.event_prelude.proofs.Below.event_basis.Proved.{none_commits}
use Rattle.event_move.proofs.Committed.{none_finished}
use Rattle.event_move.proofs.committing.commit.Goals as goal

pub make_commit-requires-clause-finished : goal.make_commit-requires-clause-finished
make_commit-requires-clause-finished g c =
    subst (IsLeast c.args.state.now.view) c.in-Some-finished_in.ensures.some c.in-Some.ensures.some.1

pub returns-in-None : goal.returns-in-None
returns-in-None g c =
    none_finished g.row.N.Denot c.args.state.now.view c.in-Some.ensures.some.0 c.args.state.now.effect c.requires.fresh
    (none_commits c.args.state.now.view c.in-Some.least c.in-Some.ensures.some.1
    (c.finished_in.ensures.none (ap is_some c.in-None.is)))
