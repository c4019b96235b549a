use Rattle.std.proofs.Common.{ℕ}
use Rattle.spec_state.specs.Picks.{latest_first}
use Rattle.spec_state.specs.Queries.{IsOnCore, IsFinished, IsDispatched}
use Rattle.spec_state.proofs.Picks.{latest_pick, latest_some, pick_none}
use Rattle.spec_state.proofs.Dispatched.{latest_of_both}
use Rattle.spec_state.proofs.state.State.latest.Goals as goal

pub returns-clause-some : goal.returns-clause-some
returns-clause-some g c =
    let view = c.args.self.now.view in
    let tile = c.args.tile in
    latest_some (IsDispatched view tile) c.later.result
    (latest_of_both g.N.Naming.image.data_size view c.is_stored.ensures tile c.latest_on_core.result
    c.last_finished.result c.later.result
    (latest_pick (λ k t. (core : ℕ) × IsOnCore view tile core k t) c.latest_on_core.result
    c.latest_on_core.ensures.some c.latest_on_core.ensures.none)
    (latest_pick (IsFinished view tile) c.last_finished.result c.last_finished.ensures.some
    c.last_finished.ensures.none)
    c.later.ensures)

pub returns-clause-none : goal.returns-clause-none
returns-clause-none g c =
    let view = c.args.self.now.view in
    let tile = c.args.tile in
    pick_none latest_first (IsDispatched view tile) c.later.result
    (latest_of_both g.N.Naming.image.data_size view c.is_stored.ensures tile c.latest_on_core.result
    c.last_finished.result c.later.result
    (latest_pick (λ k t. (core : ℕ) × IsOnCore view tile core k t) c.latest_on_core.result
    c.latest_on_core.ensures.some c.latest_on_core.ensures.none)
    (latest_pick (IsFinished view tile) c.last_finished.result c.last_finished.ensures.some
    c.last_finished.ensures.none)
    c.later.ensures)
