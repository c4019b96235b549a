use Rattle.std.proofs.Common.{◌∙◌, ap, length, Some, rules}
use Rattle.spill_store.specs.SpilledTasks.{Spilled}
use Rattle.spec_state.specs.Effects.{EffectValue}
use Rattle.spec_state.specs.Room.{Splits}
use Rattle.spec_state.specs.StateValue.{StateValue}
use Rattle.spec_commit.proofs.Named.{taken_there, named_by_heir}
use Rattle.spec_commit.proofs.splitting.split.Goals as goal

pub creator_named-creator-requires : goal.creator_named-creator-requires
creator_named-creator-requires g c =
    let s : Spilled = record { desc = c.take_spilled-domain.result.0; domain = c.take_spilled-domain.result.1 } in
    record {
      heir =
          named_by_heir c.args.state.now.view c.take_spilled-domain.new.state.view _ c.take_spilled-domain.result.0.name c.count.result
          c.heir-heir.result c.heir-heir.ensures c.take_spilled-domain.ensures.rest
          (c.count.ensures.count ∙ ap (λ (v : StateValue). length v.view.history) c.state.view_is)
          (c.requires.named s (taken_there _ _ s c.take_spilled-domain.ensures.taken));
    }

pub returns-clause-ok : goal.returns-clause-ok
returns-clause-ok g c =
    let splits : Splits c.args.tile c.args.state.now.view c.put-2.new.self.view = search rules in (
      splits,
      c.put-2.ensures.effect
          ∙ ap (λ (e : EffectValue). record e { arrived = Some c.put-2.result }) c.take_spilled-domain.ensures.effect,
    )
