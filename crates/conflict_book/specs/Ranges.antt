-- Which events may be handed to a book.
use Rattle.std.specs.Prelude.{◌<◌}
use Rattle.event_step.specs.spec_state.declared.settings.Settings.{Settings}
use Rattle.event_step.specs.event_def.declared.event.Event.{Event}
use Rattle.event_step.specs.event_def.declared.event.Event.TheVariants as event

-- the event's tile and core are there
abbrev pub IsInRange : {N : Type 0} → Settings → Event N → Type 0
IsInRange settings (event.Dispatch tile) = tile < settings.tiles
IsInRange settings (event.Step tile core leg) = (tile < settings.tiles) × (core < settings.cores)
IsInRange settings (event.Abort tile) = tile < settings.tiles
IsInRange settings event.Commit = Unit {0}
IsInRange settings (event.Coalesce tile) = tile < settings.tiles
IsInRange settings (event.Split tile) = tile < settings.tiles
