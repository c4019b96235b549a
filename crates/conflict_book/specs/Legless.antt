-- The event that one without a leg is.
use Rattle.event_step.specs.event_def.declared.event.Event.{Event}
use Rattle.event_step.specs.event_def.declared.event.Event.TheVariants as event
use Rattle.conflict_book.specs.declared.legless.Legless.{Legless}
use Rattle.conflict_book.specs.declared.legless.Legless.TheVariants as legless

-- the event that one without a leg is
abbrev pub event_of : {N : Type 0} → Legless → Event N
event_of (legless.Dispatch tile) = event.Dispatch tile
event_of (legless.Abort tile) = event.Abort tile
event_of legless.Commit = event.Commit
event_of (legless.Coalesce tile) = event.Coalesce tile
event_of (legless.Split tile) = event.Split tile
