use Rattle.std.proofs.Common.{rules}
use Rattle.progress_cell.proofs.Keeps.{sees}
use Rattle.progress_cell.proofs.board.Board.read.Goals as goal

pub load_as-words-requires : goal.load_as-words-requires
load_as-words-requires g c = (search rules, (search rules, (search rules, sees _ _ (search rules))))
