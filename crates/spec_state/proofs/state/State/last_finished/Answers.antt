use Rattle.std.proofs.Common.{take}
use Rattle.std.proofs.lemmas.List.Elements.{Contains-get_or}
use Rattle.spec_state.specs.Queries.{IsFinished}
use Rattle.spec_state.specs.Picks.{latest_first}
use Rattle.spec_state.proofs.Picks.{IsAmong, no_pick, picked_live, latest_some, pick_none}
use Rattle.spec_state.proofs.Dispatched.{IsListed, finished_live, next_finished, all_finished}
use Rattle.spec_state.proofs.state.State.last_finished.Goals as goal

pub later-best-requires-clause-one : goal.later-best-requires-clause-one
later-best-requires-clause-one g c =
    picked_live latest_first c.args.self.now.view
    (IsAmong (IsListed c.args.self.now.view) (take c.loop-id.id-index c.finished_in-ids.result.now))
    (λ k t of. of.2.1) c.loop-id.best c.loop-id.invariant

pub later-best-requires-clause-two : goal.later-best-requires-clause-two
later-best-requires-clause-two g c =
    finished_live g.N.Naming.image.data_size c.args.self.now.view c.is_stored.ensures c.args.tile
    c.finished_in-ids.result.now c.finished_in-ids.ensures _
    (Contains-get_or c.finished_in-ids.result.now c.loop-id.id-index 0 c.loop-id-test.true)

pub loop-id-init : goal.loop-id-init
loop-id-init g c = no_pick latest_first (IsListed c.args.self.now.view) c.finished_in-ids.result.now

pub loop-id-preserved : goal.loop-id-preserved
loop-id-preserved g c =
    next_finished g.N.Naming.image.data_size c.args.self.now.view c.is_stored.ensures c.args.tile
    c.finished_in-ids.result.now c.finished_in-ids.ensures c.loop-id.id-index c.loop-id-test.true
    c.loop-id.best c.later-best.result c.loop-id.invariant c.later-best.ensures

pub returns-clause-some : goal.returns-clause-some
returns-clause-some g c =
    latest_some (IsFinished c.args.self.now.view c.args.tile) c.loop-id.best
    (all_finished g.N.Naming.image.data_size c.args.self.now.view c.is_stored.ensures c.args.tile
    c.finished_in-ids.result.now c.finished_in-ids.ensures c.loop-id.id-index c.loop-id-test.false
    c.loop-id.best c.loop-id.invariant)

pub returns-clause-none : goal.returns-clause-none
returns-clause-none g c =
    pick_none latest_first (IsFinished c.args.self.now.view c.args.tile) c.loop-id.best
    (all_finished g.N.Naming.image.data_size c.args.self.now.view c.is_stored.ensures c.args.tile
    c.finished_in-ids.result.now c.finished_in-ids.ensures c.loop-id.id-index c.loop-id-test.false
    c.loop-id.best c.loop-id.invariant)
