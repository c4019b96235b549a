use Rattle.std.proofs.Common.{arith, length, Some, None}
use Rattle.spec_state.proofs.Idles.{idle_some, idle_none, queued_live}
use Rattle.spec_state.proofs.state.State.idle.Goals as goal

pub first_idle-requires : goal.first_idle-requires
first_idle-requires g c = record {
  live =
      queued_live g.N.Naming.image.data_size c.args.self.now.view c.is_stored.ensures c.args.tile
      c.queued_in-ids.result.now c.queued_in-ids.ensures.ids;
}

pub least_idle-requires-clause-live : goal.least_idle-requires-clause-live
least_idle-requires-clause-live g c =
    queued_live g.N.Naming.image.data_size c.args.self.now.view c.is_stored.ensures c.args.tile
    c.queued_in-ids.result.now c.queued_in-ids.ensures.ids

pub returns-in-None-clause-none : goal.returns-in-None-clause-none
returns-in-None-clause-none g c =
    idle_none c.args.self.now.view c.args.tile c.queued_in-ids.result.now c.queued_in-ids.ensures.ids
    c.queued_in-ids.ensures.distinct (length c.queued_in-ids.result.now) (omega arith) None
    (c.first_idle.ensures.none c.in-None.is)

pub returns-in-Some-clause-some : goal.returns-in-Some-clause-some
returns-in-Some-clause-some g c =
    idle_some c.args.self.now.view c.args.tile c.queued_in-ids.result.now c.queued_in-ids.ensures.ids
    c.queued_in-ids.ensures.distinct (length c.queued_in-ids.result.now) (omega arith) (Some c.least_idle.result)
    c.least_idle.ensures
