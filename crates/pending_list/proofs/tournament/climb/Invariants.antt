use Rattle.std.proofs.Common.{◌≡◌, ◌<◌, ◌/◌, length}
use Rattle.pending_list.specs.Tournament.{leaves, IsTournamentBut}
use Rattle.pending_list.proofs.tournament.climb.Given as goal

abbrev pub invariant-loop-at : goal.invariant-loop-at
invariant-loop-at l = record {
  but : IsTournamentBut (length l.fn.nodes / 2) l.nodes l.at;
  low : l.at < length l.fn.nodes / 2;
  leaves : leaves l.nodes ≡ leaves l.fn.nodes;
}

abbrev pub decreases-loop-at : goal.decreases-loop-at
decreases-loop-at l = l.at
