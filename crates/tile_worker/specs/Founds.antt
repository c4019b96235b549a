-- What a worker may find in a hold.
use Rattle.std.specs.Prelude.{◌≡◌, ◌⊎◌, ◌≤◌, ◌^◌, true}
use Rattle.conflict_book.specs.event_def.Book.{BookView}
use Rattle.conflict_book.specs.event_def.End.{IsOver}
use Rattle.tile_worker.specs.declared.hold.Found.{Found}
use Rattle.tile_worker.specs.declared.hold.Found.TheVariants as found

-- a worker is done only where the run is over, the book was stopped, or as many events were made as may be
abbrev pub IsDoneAt : BookView → Found → Type 0
IsDoneAt book found.Done = IsOver book.view ⊎ ((book.stopped ≡ true) ⊎ (2 ^ 63 ≤ book.steps))
IsDoneAt book other = Unit {0}
