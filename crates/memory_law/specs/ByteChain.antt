-- The chain of one byte.
use Rattle.std.specs.Prelude.{◌≡◌, ℕ, zero, suc, ◌+◌, ◌-◌, ◌/◌, ◌%◌, Bool, List, [], ◌∷◌, Option, Some, None}
use Rattle.std.specs.Prelude.{if◌then◌else◌, nat_le, nat_lt, ◌&&◌, unwrap_or}
use Rattle.undo_log.specs.declared.access.Access.{Access}

-- the byte of a number at a place, from the least one on
abbrev pub digit : ℕ → ℕ → ℕ
digit value zero = value % 256
digit value (suc place) = digit (value / 256) place

-- the byte lies in the access
abbrev pub covers : Access → ℕ → Bool
covers access k = nat_le access.offset k && nat_lt k (access.offset + access.width)

-- the byte that a store puts at a place
abbrev pub new_digit : Option ℕ → ℕ → Option ℕ
new_digit None place = None
new_digit (Some value) place = Some (digit value place)

-- what each access to the byte found there, and what it put there, in the order of the log
abbrev pub byte_accesses : ℕ → List Access → List (ℕ × Option ℕ)
byte_accesses k [] = []
byte_accesses k (access ∷ log) =
    if covers access k
    then (digit access.old (k - access.offset), new_digit access.new (k - access.offset)) ∷ byte_accesses k log
    else byte_accesses k log

-- the first old value is the byte as it was, each further one is what the access before it left, and the last one
-- left the byte as it is
abbrev pub IsByteChain : ℕ → List (ℕ × Option ℕ) → ℕ → Type 0
IsByteChain byte [] now = byte ≡ now
IsByteChain byte ((old, new) ∷ later) now = (byte ≡ old) × IsByteChain (unwrap_or new byte) later now
