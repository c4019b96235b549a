-- What workers make of a book.
use Rattle.std.specs.Prelude.{◌≡◌, ◌+◌, ℕ, List, length, sum}
use Rattle.conflict_book.specs.declared.book.Book.{Book}
use Rattle.conflict_book.specs.BookViews.{events_made, machine_view}
use Rattle.tile_worker.specs.Grows.{Grows}

-- so many workers ran a book on: each made its share of the events that were made, and the run goes on where it stood
pub record RunsOn {N P T : Type 0} (number : ℕ) (old : Book N P T) (made : List ℕ) (new : Book N P T) : Type 0 where
  pub workers : length made ≡ number
  pub shares : sum made + events_made old ≡ events_made new
  pub grows : Grows (machine_view old) (machine_view new)
