use Rattle.std.proofs.Common.{◌≡◌, ◌<◌, arith, refl, sym, ap, subst, ◌∙◌, ◌++◌, ◌∷◌, [], ℕ, List, Some, length, map}
use Rattle.std.proofs.Common.{take, slice_get}
use Rattle.std.specs.Prelude.{Contains, IsSome, slice_index_or}
use Rattle.std.proofs.lemmas.List.{length-map, length-take-le, map-append, take_more, take_all}
use Rattle.spec_state.specs.declared.effect.SpilledTask.{SpilledTask}
use Rattle.spec_state.specs.Effects.{EffectValue}
use Rattle.spec_state.specs.View.{View, task_at}
use Rattle.spec_state.specs.Told.{told_spilled}
use Rattle.spec_commit.proofs.telling.tell_spilled.Goals as goal

pub loop-id-init : goal.loop-id-init
loop-id-init g c = record {
  told = c.forget.ensures.effect;
  view = c.forget.ensures.view;
  spare = c.forget.ensures.spare;
}
