-- What a worker skips.
use Rattle.std.specs.Prelude.{◌+◌, ◌*◌, ◌-◌, ◌^◌, ℕ, min}
use Rattle.tile_worker.specs.declared.round.TileCore.{TileCore}

-- the index of a core in the list of all cores of all tiles
abbrev pub index_of : TileCore → ℕ
index_of place = place.tile * 4 + place.core

-- what was refused to a worker at this count of events is skipped up to that one: 512 more, and at most 2^64 - 1
abbrev pub rest_until : ℕ → ℕ
rest_until steps = min (steps + 512) (2 ^ 64 - 1)
