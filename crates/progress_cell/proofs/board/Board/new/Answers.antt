use Rattle.std.proofs.Common.{rules}
use Rattle.progress_cell.proofs.Keeps.{opens}
use Rattle.progress_cell.proofs.board.Board.new.Goals as goal

pub ruled-requires : goal.ruled-requires
ruled-requires c = (search rules, (search rules, opens))
