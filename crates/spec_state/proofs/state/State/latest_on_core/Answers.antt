use Rattle.std.proofs.Common.{None, ℕ, take}
use Rattle.std.proofs.lemmas.List.Elements.{Contains-get_or}
use Rattle.spec_state.specs.Queries.{IsOnCore}
use Rattle.spec_state.specs.Picks.{IsOwn, latest_first}
use Rattle.spec_state.proofs.Picks.{IsAmong, no_pick, picked_live, latest_some, pick_none}
use Rattle.spec_state.proofs.Dispatched.{core_live, next_core, all_cores}
use Rattle.spec_state.proofs.state.State.latest_on_core.Goals as goal

pub later-best-requires-clause-one : goal.later-best-requires-clause-one
later-best-requires-clause-one g c =
    picked_live latest_first c.args.self.now.view
    (IsAmong (IsOwn c.args.self.now.view) (take c.loop-core.core-index c.held_in-cores.result.now))
    (λ k t of. of.2.1) c.loop-core.best c.loop-core.invariant

pub later-best-requires-clause-two : goal.later-best-requires-clause-two
later-best-requires-clause-two g c =
    core_live g.N.Naming.image.data_size c.args.self.now.view c.is_stored.ensures c.args.tile
    c.held_in-cores.result.now c.held_in-cores.ensures _
    (Contains-get_or c.held_in-cores.result.now c.loop-core.core-index None c.loop-core-test.true)

pub loop-core-init : goal.loop-core-init
loop-core-init g c = no_pick latest_first (IsOwn c.args.self.now.view) c.held_in-cores.result.now

pub loop-core-preserved : goal.loop-core-preserved
loop-core-preserved g c =
    next_core g.N.Naming.image.data_size c.args.self.now.view c.is_stored.ensures c.args.tile
    c.held_in-cores.result.now c.held_in-cores.ensures c.loop-core.core-index c.loop-core-test.true
    c.loop-core.best c.later-best.result c.loop-core.invariant c.later-best.ensures

pub returns-clause-some : goal.returns-clause-some
returns-clause-some g c =
    latest_some (λ k t. (core : ℕ) × IsOnCore c.args.self.now.view c.args.tile core k t) c.loop-core.best
    (all_cores g.N.Naming.image.data_size c.args.self.now.view c.is_stored.ensures c.args.tile
    c.held_in-cores.result.now c.held_in-cores.ensures c.loop-core.core-index c.loop-core-test.false
    c.loop-core.best c.loop-core.invariant)

pub returns-clause-none : goal.returns-clause-none
returns-clause-none g c =
    pick_none latest_first (λ k t. (core : ℕ) × IsOnCore c.args.self.now.view c.args.tile core k t) c.loop-core.best
    (all_cores g.N.Naming.image.data_size c.args.self.now.view c.is_stored.ensures c.args.tile
    c.held_in-cores.result.now c.held_in-cores.ensures c.loop-core.core-index c.loop-core-test.false
    c.loop-core.best c.loop-core.invariant)
