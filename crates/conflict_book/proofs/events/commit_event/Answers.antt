use Rattle.conflict_book.proofs.Passing.{commit_comes}
use Rattle.conflict_book.proofs.events.commit_event.Goals as goal

pub returns : goal.returns
returns g c taps steps =
    commit_comes g.row.N.Denot g.N.Naming.image c.args.state.now.view _ c.commit-came.result _ _ _ c.requires.sound c.commit-came.ensures c.pass_after.ensures taps steps
