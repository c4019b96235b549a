use Rattle.std.proofs.Common.{◌≡◌, replicate, map, None, length}
use Rattle.std.specs.Prelude.{All, vec_len}
use Rattle.spec_state.specs.View.{core_ids}
use Rattle.spec_state.proofs.making.all_free_cores.Given as goal

abbrev pub invariant-loop : goal.invariant-loop
invariant-loop l =
    (map (λ tile. core_ids tile.items) l.held.items ≡ replicate l.counter (replicate l.cores None))
    × (length l.held.items ≡ l.counter)
    × All (λ tile. vec_len tile ≡ l.cores) l.held.items
