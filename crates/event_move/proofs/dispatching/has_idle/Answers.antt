use Rattle.event_prelude.proofs.Below.spec_state.Idles.{queued_live}
use Rattle.event_move.proofs.Idled.{idle_found, none_found}
use Rattle.event_move.proofs.dispatching.has_idle.Goals as goal

pub is_one_idle-requires : goal.is_one_idle-requires
is_one_idle-requires g c = record {
  live =
      queued_live g.N.Naming.image.data_size c.args.state.now.view c.is_stored.ensures c.args.tile
      c.queued_in.result.now c.queued_in.ensures.ids;
}

pub returns-clause-some : goal.returns-clause-some
returns-clause-some g c is =
    idle_found g.N.Naming.image.data_size c.args.state.now.view c.is_stored.ensures c.args.tile
    c.queued_in.result.now c.queued_in.ensures.ids c.queued_in.ensures.distinct (c.is_one_idle.ensures.found is)

pub returns-clause-none : goal.returns-clause-none
returns-clause-none g c not =
    none_found g.N.Naming.image.data_size c.args.state.now.view c.is_stored.ensures c.args.tile c.queued_in.result.now
    c.queued_in.ensures.ids c.queued_in.ensures.distinct (c.is_one_idle.ensures.none not)
