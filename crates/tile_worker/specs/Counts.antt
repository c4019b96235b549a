-- How an attempted event counts.
use Rattle.std.specs.Prelude.{◌≡◌, ◌⊎◌}
use Rattle.conflict_book.specs.event_def.Book.{BookView}
use Rattle.conflict_book.specs.event_def.End.{IsOver}
use Rattle.tile_worker.specs.Holds.{MakesOne, RunsOut}
use Rattle.tile_worker.specs.declared.hold.Tried.{Tried}
use Rattle.tile_worker.specs.declared.hold.Tried.TheVariants as tried

-- one event was made; or it was refused, and the book is as it was; or the run is over and the book is as it was, or
-- memory may run out and the book was stopped
abbrev pub CountsSo : Type 0 → BookView → Tried → BookView → Type 0
CountsSo N old tried.Made new = MakesOne N old new
CountsSo N old tried.Waits new = new ≡ old
CountsSo N old tried.Missed new = new ≡ old
CountsSo N old tried.Over new = (IsOver old.view × (new ≡ old)) ⊎ RunsOut N old new
