-- Which tiles are a worker's own.
use Rattle.std.proofs.Common.{◌≡◌, ◌↔◌, ◌<◌, ◌≤◌, ◌+◌, ◌*◌, ◌-◌, ◌/◌, ◌%◌, ℕ, ◌∙◌, arith}
use Rattle.std.proofs.Math.Nat.{add-mod_right, div-le_self, le-div_iff_mul-le, mod-eq_of_lt}

-- the first one
pub own_first : (worker workers : ℕ) → worker < workers → worker % workers ≡ worker
own_first worker workers less = mod-eq_of_lt less

-- and each further one, so many tiles on
pub own_next : (tile workers worker : ℕ) → tile % workers ≡ worker → (tile + workers) % workers ≡ worker
own_next tile workers worker own = add-mod_right tile workers ∙ own

-- a quotient bounds what goes into the dividend
goes_into : (d workers k : ℕ) → 0 < workers → (k ≤ d / workers) ↔ (k * workers ≤ d)
goes_into d workers k some = le-div_iff_mul-le some

-- the own tiles among so many, where there is one
pub own_count : (worker workers tiles k : ℕ) → worker < workers → worker < tiles
    → (k < (tiles - 1 - worker) / workers + 1) ↔ (worker + k * workers < tiles)
own_count worker workers tiles k less inside =
    let into = goes_into (tiles - 1 - worker) workers k (omega arith) in (
      λ below. let product = into.0 (omega arith) in omega arith,
      λ within. let quotient = into.1 (omega arith) in omega arith,
    )

-- they are no more than all tiles
pub own_few : (worker workers tiles : ℕ) → worker < tiles → (tiles - 1 - worker) / workers + 1 ≤ tiles
own_few worker workers tiles inside = let most = div-le_self (tiles - 1 - worker) workers in omega arith
