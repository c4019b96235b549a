-- The chain of accesses, byte by byte, and as one replay.
use Rattle.std.specs.Prelude.{◌≡◌, ℕ, List, length, Option, Some, slice_index}
use Rattle.undo_log.specs.Number.{AreBytes}
use Rattle.memory_law.specs.Accesses.{after_accesses, Replays, AllLieIn}
use Rattle.memory_law.specs.ByteChain.{byte_accesses, IsByteChain}
use Rattle.memory_law.specs.Tasks.{Logged, IsNoted, logs, IsByKey}

-- the accesses of the dispatched tasks, by key and then by place in the log, lead each byte from the serial memory
-- to the memory
pub record IsChained (line : ℕ) (tasks : ℕ → Option Logged) (serial memory : List ℕ) : Type 0 where
  pub ids : List ℕ
  pub by_key : IsByKey tasks ids
  pub inside : AllLieIn (length serial) (logs tasks ids)
  pub size : length memory ≡ length serial
  pub chain : (k : ℕ) → IsByteChain (slice_index serial k) (byte_accesses k (logs tasks ids)) (slice_index memory k)
  pub noted : (id : ℕ) (task : Logged) → tasks id ≡ Some task → IsNoted (length serial) line task
  pub bytes : AreBytes serial

-- the logs of the dispatched tasks, replayed by rising key, lead from the serial memory to the memory
pub record IsReplay (line : ℕ) (tasks : ℕ → Option Logged) (serial memory : List ℕ) : Type 0 where
  pub ids : List ℕ
  pub by_key : IsByKey tasks ids
  pub replays : Replays serial (logs tasks ids)
  pub memory_is : memory ≡ after_accesses serial (logs tasks ids)
  pub noted : (id : ℕ) (task : Logged) → tasks id ≡ Some task → IsNoted (length serial) line task
  pub bytes : AreBytes serial
