use Rattle.std.proofs.Common.{rules, option_map}
use Rattle.std.proofs.lemmas.List.Elements.{Contains-get_or}
use Rattle.spec_state.proofs.Idles.{some_firm, none_firm, none_more, none_at_first, queued_live}
use Rattle.spec_state.proofs.state.State.has_firm.Goals as goal

pub task-requires : goal.task-requires
task-requires g c = record {
  live =
      queued_live g.N.Naming.image.data_size c.args.self.now.view c.is_stored.ensures c.args.tile
      c.queued_in-ids.result.now c.queued_in-ids.ensures.ids _
      (Contains-get_or c.queued_in-ids.result.now c.loop-id.id-index 0 c.loop-id-test.true);
}

pub loop-id-init : goal.loop-id-init
loop-id-init g c =
    none_at_first c.args.self.now.view (option_map (λ id. id.0) c.heir-heir.result) c.queued_in-ids.result.now

pub loop-id-preserved : goal.loop-id-preserved
loop-id-preserved g c =
    none_more c.args.self.now.view
    (option_map (λ id. id.0) c.heir-heir.result) c.queued_in-ids.result.now c.loop-id.id-index
    c.loop-id-test.true c.task.result.now c.task.ensures
    (search rules) c.loop-id.invariant

pub returns-then-is_idle_firm : goal.returns-then-is_idle_firm
returns-then-is_idle_firm g c =
    some_firm c.args.self.now.view
    (option_map (λ id. id.0) c.heir-heir.result) c.heir-heir.ensures c.args.tile c.queued_in-ids.result.now
    c.queued_in-ids.ensures.ids c.loop-id.id-index
    c.loop-id-test.true c.task.result.now c.task.ensures (c.is_idle_firm.ensures.0 (search rules))

pub returns : goal.returns
returns g c =
    none_firm c.args.self.now.view
    (option_map (λ id. id.0) c.heir-heir.result) c.heir-heir.ensures c.args.tile c.queued_in-ids.result.now
    c.queued_in-ids.ensures.ids c.loop-id.id-index
    c.loop-id-test.false c.loop-id.invariant
