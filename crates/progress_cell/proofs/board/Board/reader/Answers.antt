use Rattle.std.proofs.Common.{rules}
use Rattle.progress_cell.proofs.Keeps.{makes}
use Rattle.progress_cell.proofs.board.Board.reader.Goals as goal

pub split_pass-requires : goal.split_pass-requires
split_pass-requires c = (search rules, (search rules, (search rules, makes _ _ (search rules))))
