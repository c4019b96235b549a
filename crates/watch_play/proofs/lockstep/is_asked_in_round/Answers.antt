use Rattle.std.proofs.Common.{sym, subst}
use Rattle.std.specs.Prelude.{◌↔◌, IsTrue}
use Rattle.watch_counts.specs.conflict_book.BookViews.{machine_view}
use Rattle.watch_play.specs.Courses.{IsAskedInRound}
use Rattle.watch_play.proofs.lockstep.is_asked_in_round.Goals as goal

pub returns-in-Commit : goal.returns-in-Commit
returns-in-Commit g c =
    subst (λ act. IsTrue c.is_commit_asked.result ↔ IsAskedInRound (machine_view c.args.book.now) act)
    (sym c.in-Commit.is) (c.is_commit_asked.ensures (machine_view c.args.book.now) c.requires.least)
