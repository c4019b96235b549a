-- What contracts see of a source and a sink in memory.
use Rattle.std.specs.Prelude.{ℕ, ◌+◌, ◌-◌, ◌^◌, ◌==◌, ◌||◌, Bool, List, [], length, min, nat_le}
use Rattle.std.specs.List.{list_any}

-- a source in memory: the bytes left, how many a call gives at most, the numbers of the calls that fail, and how many
-- calls and how many faults there were
pub record MemSourceValue : Type 0 where
  pub left : List ℕ
  pub piece : ℕ
  pub fail_at : List ℕ
  pub calls : ℕ
  pub faults : ℕ

-- a sink in memory: the bytes taken, how many are taken at all and by a call at most, the numbers of the calls that
-- fail, and how many calls and how many faults there were
pub record MemSinkValue : Type 0 where
  pub bytes : List ℕ
  pub most : ℕ
  pub piece : ℕ
  pub fail_at : List ℕ
  pub calls : ℕ
  pub faults : ℕ

-- a source in memory that was not read yet
abbrev pub new_source : (bytes : List ℕ) (piece : ℕ) (fail_at : List ℕ) → MemSourceValue
new_source bytes piece fail_at = record { left = bytes; piece = piece; fail_at = fail_at; calls = 0; faults = 0 }

-- a sink in memory that took nothing yet
abbrev pub new_sink : (most piece : ℕ) (fail_at : List ℕ) → MemSinkValue
new_sink most piece fail_at = record {
  bytes = [];
  most = most;
  piece = piece;
  fail_at = fail_at;
  calls = 0;
  faults = 0;
}

-- one more, up to the end of a counter of 64 bits
abbrev pub one_more : ℕ → ℕ
one_more count = min (count + 1) (2 ^ 64 - 1)

-- the next call's number, counted from 1, is among those that fail
abbrev pub is_listed : ℕ → List ℕ → Bool
is_listed calls fail_at = list_any (λ k. k == one_more calls) fail_at

-- the next write fails: its number is listed, or the sink is full
abbrev pub is_refused : MemSinkValue → Bool
is_refused s = is_listed s.calls s.fail_at || nat_le s.most (length s.bytes)
