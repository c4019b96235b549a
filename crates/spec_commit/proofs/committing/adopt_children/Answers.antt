use Rattle.std.proofs.Common.{arith, inr, ◌≤◌, length, ap, ◌∙◌}
use Rattle.spec_state.specs.StateValue.{StateValue}
use Rattle.spec_commit.proofs.Committed.{adopts_seen, indexed_adopted, noted_adopted, slots_adopted, stored_adopted}
use Rattle.spec_commit.proofs.committing.adopt_children.Goals as goal

pub adopt-requires : goal.adopt-requires
adopt-requires g c = record { noted = c.state.invariant.6 }

pub invariant_of-state : goal.invariant_of-state
invariant_of-state g c =
    let upto : c.count-turn.result ≤ length c.state.inside.history.entries = omega (arith, c.count-turn.ensures.count) in (
      c.state.invariant.0,
      c.state.invariant.1,
      c.state.invariant.2,
      slots_adopted _ _ c.adopt.new.tasks.slots c.state.inside.queues.items _ c.adopt.new.tasks.capacity c.state.invariant.3 c.adopt.ensures.len c.adopt.ensures.capacity,
      stored_adopted g.N.Naming.image.data_size c.args.id.0 c.count-turn.result _ c.adopt.new.tasks.slots (λ k. inr (c.adopt.ensures.each k)) upto c.state.invariant.4,
      indexed_adopted c.args.id.0 c.count-turn.result _ c.adopt.new.tasks.slots (λ k. inr (c.adopt.ensures.each k)) _ _ _ _ c.state.invariant.5,
      noted_adopted c.args.id.0 c.count-turn.result _ c.adopt.new.tasks.slots _ _ c.adopt.ensures.each c.forget.ensures.complete c.forget.ensures.others c.state.invariant.6,
    )

pub returns-clause-each : goal.returns-clause-each
returns-clause-each g c =
    adopts_seen c.state.inside.tasks.slots c.adopt.new.tasks.slots c.args.state.now.view c.args.id.0 c.count-turn.result
    (ap (λ (v : StateValue). v.view.tasks) c.state.view_is)
    (c.count-turn.ensures.count ∙ ap (λ (v : StateValue). length v.view.history) c.state.view_is) c.adopt.ensures.each
