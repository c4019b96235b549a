-- Accesses, with what they report.
use Rattle.std.specs.Prelude.{◌≡◌, ℕ, Bool, None}
use Rattle.rv_core.specs.LegValue.{LegValue}
use Rattle.rv_table.specs.declared.instr.LoadWidth.{LoadWidth}
use Rattle.event_prelude.specs.spec_state.declared.task.Task.{Task}
use Rattle.event_prelude.specs.spec_state.Effects.{EffectValue}
use Rattle.event_prelude.specs.spec_state.View.{View}
use Rattle.event_prelude.specs.event_def.Events.{TakesConflicts, LoadEvent, StoreEvent}
use Rattle.event_prelude.specs.event_def.Telling.{TellsAbort}

-- what conflicts with an access is aborted, and nothing else is reported
abbrev pub TakesTelling : Task → ℕ → Bool → View → ℕ → View → EffectValue → Type 0
TakesTelling task offset write old aborted new effect =
    (takes : TakesConflicts task offset write old aborted new)
    × TellsAbort old takes.marks effect × (effect.arrived ≡ None)

module _ (tile core : ℕ) (leg : LegValue) (id : ℕ) (task : Task) where
  -- a load, which reports what conflicted with it
  abbrev pub LoadsTelling : LoadWidth → ℕ → ℕ → View → ℕ → View → EffectValue → Type 0
  LoadsTelling width rd offset old aborted new effect =
      (loads : LoadEvent tile core leg id task width rd offset old aborted new)
      × TellsAbort old loads.forced.marks effect × (effect.arrived ≡ None)

  -- a store, likewise
  abbrev pub StoresTelling : ℕ → ℕ → ℕ → View → ℕ → View → EffectValue → Type 0
  StoresTelling offset width value old aborted new effect =
      (stores : StoreEvent tile core leg id task offset width value old aborted new)
      × TellsAbort old stores.forced.marks effect × (effect.arrived ≡ None)
