-- A child in the tile that is picked for it.
use Rattle.std.specs.Prelude.{◌≡◌, ℕ, Some}
use Rattle.rv_core.specs.LegValue.{LegValue}
use Rattle.task_desc.specs.declared.desc.Spawn.{Spawn}
use Rattle.event_prelude.specs.spec_state.declared.task.Task.{Task}
use Rattle.event_prelude.specs.spec_state.Effects.{EffectValue}
use Rattle.event_prelude.specs.spec_state.View.{View}
use Rattle.event_prelude.specs.spec_state.Room.{Enqueuer, MakesRoom}
use Rattle.event_prelude.specs.spec_state.Changes.{Enqueues}
use Rattle.event_prelude.specs.event_def.Telling.{TellsRoom}

-- the tile makes room for the child of this task, and then its task queue gets the child
pub record PlacesChild (tile id : ℕ) (task : Task) (leg : LegValue) (spawn : Spawn) (old : View) (aborted : ℕ)
    (new : View) : Type 0 where
  pub mid : View
  pub forced : MakesRoom tile (Enqueuer id) old aborted mid
  pub change : Enqueues id task leg spawn tile mid new

-- what is done for room is reported, and the child as the created task
abbrev pub PlacesTelling : ℕ → ℕ → Task → LegValue → Spawn → View → ℕ → View → EffectValue → Type 0
PlacesTelling tile id task leg spawn old aborted new effect =
    (places : PlacesChild tile id task leg spawn old aborted new)
    × TellsRoom tile (Enqueuer id) old aborted places.mid places.forced effect
    × (effect.arrived ≡ Some (record { 0 = places.change.child }))
