use Rattle.std.proofs.Common.{rules, ◌≡◌, Contains, ◌∙◌, refl}
use Rattle.tile_queues.specs.Queue.{ids_but}
use Rattle.tile_queues.proofs.Ids.{remove-distinct, ids_but-absent, AreDistinct-ids_but}
use Rattle.tile_queues.proofs.queue.Queue.take.Goals as goal

pub invariant_of-self : goal.invariant_of-self
invariant_of-self g c =
    let gone : c.remove.new.self.items ≡ ids_but c.args.id c.self.inside.ids.items =
    c.remove.ensures.items
    ∙ remove-distinct c.args.id c.in-Some.place c.self.inside.ids.items c.self.invariant.distinct (search rules) (search rules) in
    record {
      some = c.self.invariant.some;
      distinct = rw gone (AreDistinct-ids_but _ _ c.self.invariant.distinct);
      bounded = search rules;
      spare = search rules;
    }

pub returns-in-Some-clause-taken : goal.returns-in-Some-clause-taken
returns-in-Some-clause-taken g c =
    let gone : c.remove.new.self.items ≡ ids_but c.args.id c.self.inside.ids.items =
    c.remove.ensures.items
    ∙ remove-distinct c.args.id c.in-Some.place c.self.inside.ids.items c.self.invariant.distinct (search rules) (search rules) in
    rw (← c.self.view_is, gone) refl

pub returns-in-None-clause-taken : goal.returns-in-None-clause-taken
returns-in-None-clause-taken g c =
    let absent : Contains c.args.self.now.ids c.args.id → ⊥ = search rules in
    rw (ids_but-absent c.args.id c.args.self.now.ids absent) refl
