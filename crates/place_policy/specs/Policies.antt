-- The placers that the machine comes with.
use Rattle.std.specs.Prelude.{ℕ, ◌+◌, ◌%◌, ◌==◌, List, length, nat_le, if◌then◌else◌}
use Rattle.std.specs.List.{list_all, position_or_len}
use Rattle.place_policy.specs.Policy.{Policy}

-- tasks of one hint go to one tile, and there is but one state
abbrev pub by_hint : Policy
by_hint = record { state = 0; chosen = λ state hint loads. hint % length loads; after = λ state tile. 0 }

-- the first place of a load that is at most every load
abbrev pub least_place : List ℕ → ℕ
least_place loads = position_or_len (λ load. list_all (λ other. nat_le load other) loads) loads

-- the lowest tile of least load, and there is but one state
abbrev pub least_loaded : Policy
least_loaded = record { state = 0; chosen = λ state hint loads. least_place loads; after = λ state tile. 0 }

-- the tiles in turn: the state is the tile after the last one, a number of 32 bits that wraps
abbrev pub round_robin : ℕ → Policy
round_robin next = record {
  state = next;
  chosen = λ state hint loads. state % length loads;
  after = λ state tile. if tile == 4294967295 then 0 else tile + 1;
}
