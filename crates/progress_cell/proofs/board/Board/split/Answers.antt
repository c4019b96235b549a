use Rattle.std.proofs.Common.{rules}
use Rattle.progress_cell.proofs.Keeps.{splits}
use Rattle.progress_cell.proofs.board.Board.split.Goals as goal

pub split_pass-requires : goal.split_pass-requires
split_pass-requires c = (search rules, (search rules, (search rules, splits _ _ (search rules) (search rules))))
