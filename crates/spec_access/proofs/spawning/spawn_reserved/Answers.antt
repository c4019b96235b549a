use Rattle.std.proofs.Common.{◌<◌, ap, subst, sym, ◌∙◌, length}
use Rattle.std.proofs.lemmas.Option.{same_Some}
use Rattle.spec_dispatch.specs.spec_state.declared.task.Task.{Task}
use Rattle.spec_dispatch.specs.spec_state.Effects.{EffectValue}
use Rattle.spec_dispatch.specs.spec_state.StateValue.{StateValue}
use Rattle.spec_dispatch.specs.spec_state.View.{View, task_at}
use Rattle.spec_dispatch.specs.spec_state.Room.{QueueHasRoom}
use Rattle.spec_dispatch.specs.spec_state.Stored.{IsWellFormed}
use Rattle.spec_access.proofs.Enqueued.{asks_made, child_formed, enqueued, child_of_same}
use Rattle.spec_access.proofs.spawning.spawn_reserved.Goals as goal

pub child_of-child-requires-clause-made : goal.child_of-child-requires-clause-made
child_of-child-requires-clause-made g c = asks_made _ _ _ _ _ _ c.requires.asks
    (ap (λ (v : StateValue). v.view) c.state.view_is) c.index.ensures

pub put-requires-clause-tile : goal.put-requires-clause-tile
put-requires-clause-tile g c =
    let rest = (c.add_spawn.ensures.keeps c.requires.asks.task c.requires.asks.takes.runs.on.there).frame in
    subst (λ tile. tile < c.add_spawn.new.state.view.settings.tiles)
    (sym (ap (λ (t : Task). t.tile) c.child_of-child.ensures))
    (subst (λ (v : View). c.args.tile < v.settings.tiles) (sym rest) c.requires.tile)

pub put-requires-clause-free : goal.put-requires-clause-free
put-requires-clause-free g c =
    let rest = (c.add_spawn.ensures.keeps c.requires.asks.task c.requires.asks.takes.runs.on.there).frame in
    subst (QueueHasRoom c.add_spawn.new.state.view) (sym (ap (λ (t : Task). t.tile) c.child_of-child.ensures))
    (subst (λ (v : View). QueueHasRoom v c.args.tile) (sym rest) c.requires.free)

pub put-requires-clause-formed : goal.put-requires-clause-formed
put-requires-clause-formed g c =
    let rest = (c.add_spawn.ensures.keeps c.requires.asks.task c.requires.asks.takes.runs.on.there).frame in
    let size = g.N.Naming.image.data_size in
    let child = c.child_of-child.result in
    let made = asks_made _ _ _ _ _ _ c.requires.asks
    (ap (λ (v : StateValue). v.view) c.state.view_is) c.index.ensures in
    let formed = child_formed _ _ c.state.inside.version _ _ _ child _ _
    (c.state.invariant.4.tasks c.args.id.0 _ c.index.ensures) made c.child_of-child.ensures in
    subst (λ (v : View). IsWellFormed size (length v.history) child) (sym rest)
    (subst (λ (s : StateValue). IsWellFormed size (length s.view.history) child) c.state.view_is formed)

pub returns-clause-enqueues : goal.returns-clause-enqueues
returns-clause-enqueues g c from core task takes =
    let there = takes.runs.on.there in
    enqueued _ _ _ _ _ task _ _ _ _ _ there (c.add_spawn.ensures.keeps task there) c.put.ensures.adds
    (child_of_same c.state.inside.version c.args.state.now.view.version _ _ task _ _ _
    (ap (λ (v : StateValue). v.view.version) c.state.view_is)
    (same_Some _ task (sym c.index.ensures ∙ ap (λ (v : StateValue). task_at v.view c.args.id.0) c.state.view_is
    ∙ there)) c.child_of-child.ensures)
    (ap (λ (e : EffectValue). e.arrived) c.put.ensures.effect)
