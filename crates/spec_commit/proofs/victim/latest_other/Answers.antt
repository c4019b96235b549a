use Rattle.std.proofs.Common.{rules, ◌+◌, option_map, sym, subst}
use Rattle.std.specs.Prelude.{IfSome}
use Rattle.spec_state.specs.declared.task.TaskId.{TaskId}
use Rattle.spec_state.specs.Room.{Asker, asker_of}
use Rattle.spec_commit.specs.Latest.{IsLatestOther}
use Rattle.spec_commit.proofs.Choices.{item_at, live_at}
use Rattle.spec_commit.proofs.Victims.{is_there, live_latest, later_is, passed_some, passed_none, is_victim}
use Rattle.spec_commit.proofs.Victims.{one_is_other}
use Rattle.spec_commit.proofs.victim.latest_other.Goals.{then-not-is_asker, else-not-is_asker}
use Rattle.spec_commit.proofs.victim.latest_other.Goals as goal

pub later-requires-clause-earlier : goal.later-requires-clause-earlier
later-requires-clause-earlier g c =
    live_latest g.N.Naming.image.data_size c.args.state.now.view c.args.tile _ c.loop-id.id-index c.loop-id.latest c.is_stored.ensures c.loop-id.invariant.some

pub later-requires-clause-own : goal.later-requires-clause-own
later-requires-clause-own g c =
    live_at g.N.Naming.image.data_size c.args.state.now.view c.args.tile c.loop-id.id-index _ c.is_stored.ensures
    (item_at c.args.state.now.view c.args.tile c.queue_ids-id-items.result.now c.loop-id.id-index c.queue_ids-id-items.ensures.ids c.loop-id-test.true)

pub loop-id-preserved : goal.loop-id-preserved
loop-id-preserved g c =
    let asker : Asker = asker_of (option_map (λ (id : TaskId). id.0) c.args.asker) in
    let item = item_at c.args.state.now.view c.args.tile c.queue_ids-id-items.result.now c.loop-id.id-index c.queue_ids-id-items.ensures.ids c.loop-id-test.true in
    elim c.if-not-is_asker.branch [
      | then-not-is_asker w ↦
          let is = later_is g.N.Naming.image.data_size c.args.state.now.view c.args.tile c.is_stored.ensures c.queue_ids-id-items.ensures.distinct asker c.loop-id.id-index _ item
          c.loop-id.latest c.loop-id.invariant.some c.loop-id.invariant.none w.later.result
          (λ asks. (let yes = c.is_asker.ensures.1 asks in let no = w.if-not-is_asker.true in cc)) w.later.ensures in
          record {
            some =
                subst (λ o. IfSome o (IsLatestOther c.args.state.now.view c.args.tile asker (c.loop-id.id-index + 1))) (sym w.latest-is) is;
            none = λ none. absurd (is_there _ _ w.latest-is none);
          }
      | else-not-is_asker w ↦
          let asks = c.is_asker.ensures.0 (search rules) in
          record {
            some =
                passed_some g.N.Naming.image.data_size c.args.state.now.view c.args.tile c.is_stored.ensures c.queue_ids-id-items.ensures.distinct asker c.loop-id.id-index _ item
                c.loop-id.latest c.loop-id.invariant.some c.loop-id.invariant.none asks _ w.latest-is;
            none =
                passed_none g.N.Naming.image.data_size c.args.state.now.view c.args.tile c.is_stored.ensures c.queue_ids-id-items.ensures.distinct asker c.loop-id.id-index _ item
                c.loop-id.latest c.loop-id.invariant.some c.loop-id.invariant.none asks _ w.latest-is;
          }
    ]

pub unreachable-requires : goal.unreachable-requires
unreachable-requires g c =
    one_is_other c.args.state.now.view c.args.tile _ c.loop-id.id-index c.queue_ids-id-items.result.now c.queue_ids-id-items.ensures.distinct c.queue_ids-id-items.ensures.ids
    (c.queue_ids-id-items.ensures.long c.requires.full) c.loop-id-test.false (c.loop-id.invariant.none (search rules))

pub returns : goal.returns
returns g c =
    is_victim g.N.Naming.image.data_size c.args.state.now.view c.args.tile _ c.loop-id.id-index _ c.queue_ids-id-items.result.now c.is_stored.ensures c.queue_ids-id-items.ensures.ids c.loop-id-test.false
    c.loop-id.latest c.in-Some.is c.loop-id.invariant.some
