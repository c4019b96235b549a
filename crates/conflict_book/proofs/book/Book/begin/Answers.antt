use Rattle.std.proofs.Common.{map}
use Rattle.conflict_book.proofs.book.Book.begin.Goals as goal

pub returns : goal.returns
returns g c = c.in_ok-sound.ensures (map g.T.Tap.notes c.args.taps.items)
