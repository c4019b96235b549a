-- What workers make of a book, with what is made after them.
use Rattle.std.proofs.Common.{arith, ◌≡◌, ◌+◌, ◌∙◌, ℕ, List, length, sum}
use Rattle.conflict_book.specs.declared.book.Book.{Book}
use Rattle.conflict_book.specs.BookViews.{events_made, machine_view}
use Rattle.tile_worker.specs.Grows.{Grows}
use Rattle.tile_worker.specs.Runs.{RunsOn}
use Rattle.tile_worker.proofs.Growing.{grows_trans}

-- one sum, and another that goes on from it
sum_on : (old mid new made all : ℕ) → made + old ≡ mid → all + mid ≡ made + new → all + old ≡ new
sum_on old mid new made all one other = omega (arith, one, other)

-- where the run goes on after the workers, and those events are counted too, the workers ran the book up to there
pub runs_on_more : {N P T : Type 0} (number workers : ℕ) (old mid new : Book N P T) (made all : List ℕ)
    → workers ≡ number → RunsOn workers old made mid → length all ≡ length made
    → sum all + events_made mid ≡ sum made + events_made new → Grows (machine_view mid) (machine_view new)
    → RunsOn number old all new
runs_on_more number workers old mid new made all are ran same more grows =
    record {
      workers = same ∙ ran.workers ∙ are;
      shares =
          sum_on (events_made old) (events_made mid) (events_made new) (sum made) (sum all) ran.shares more;
      grows = grows_trans (machine_view old) (machine_view mid) (machine_view new) ran.grows grows;
    }
