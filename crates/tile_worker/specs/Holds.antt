-- What one hold of the lock leaves of a book.
use Rattle.std.specs.Prelude.{◌≡◌, ℕ, true}
use Rattle.conflict_book.specs.event_def.declared.event.Event.{Event}
use Rattle.conflict_book.specs.event_def.Book.{BookView}
use Rattle.conflict_book.specs.event_def.Happens.{IsMade, MayRunOutOfMemory}

-- memory may run out at some event, and the book was stopped for it
pub record RunsOut (N : Type 0) (old new : BookView) : Type 0 where
  pub event : Event N
  pub may : MayRunOutOfMemory old event
  pub stopped : new ≡ record old { stopped = true }

-- one event was made
pub record MakesOne (N : Type 0) (old new : BookView) : Type 0 where
  pub event : Event N
  pub aborted : ℕ
  pub made : IsMade old event aborted new

-- the book is as it was, or one event was made, or memory may run out and the book was stopped
pub data HoldsOnce (N : Type 0) (old new : BookView) : Type 0 where
  rests : new ≡ old → HoldsOnce N old new
  makes : MakesOne N old new → HoldsOnce N old new
  stops : RunsOut N old new → HoldsOnce N old new
