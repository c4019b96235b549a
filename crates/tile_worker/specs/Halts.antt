-- How workers leave a book.
use Rattle.conflict_book.specs.spec_state.View.{View}
use Rattle.conflict_book.specs.event_def.declared.event.Halt.{Halt}
use Rattle.conflict_book.specs.event_def.declared.event.Halt.TheVariants as halts
use Rattle.conflict_book.specs.event_def.End.{HasEnd, IsOver}

-- the run is over and ended so; or it isn't over, where memory ran out or the book was stopped (`Memory`)
abbrev pub HaltsAt : View → Halt → Type 0
HaltsAt view (halts.Ended end) = HasEnd view end
HaltsAt view halts.Memory = IsOver view → ⊥
