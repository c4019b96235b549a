-- What accesses do to memory, one after another, and when they fit its contents.
use Rattle.std.specs.Prelude.{◌≡◌, ℕ, ◌+◌, ◌^◌, ◌<◌, ◌≤◌, ◌⊎◌, List, [], ◌∷◌, length, Option, Some, None}
use Rattle.undo_log.specs.declared.access.Access.{Access}
use Rattle.undo_log.specs.Number.{number_at, after_write}

-- the bytes after this number is written there, if there is one
abbrev pub written_if : List ℕ → ℕ → ℕ → Option ℕ → List ℕ
written_if bytes offset width None = bytes
written_if bytes offset width (Some value) = after_write bytes offset width value

-- the bytes after the access; a load changes none
abbrev pub after_access : List ℕ → Access → List ℕ
after_access bytes access = written_if bytes access.offset access.width access.new

-- the bytes after these accesses, one after another
abbrev pub after_accesses : List ℕ → List Access → List ℕ
after_accesses bytes [] = bytes
after_accesses bytes (access ∷ log) = after_accesses (after_access bytes access) log

-- the access lies within the bytes, and its old value is the one that they have
pub record FindsOldValue (bytes : List ℕ) (access : Access) : Type 0 where
  pub within : access.offset + access.width ≤ length bytes
  pub old_is : access.old ≡ number_at bytes access.offset access.width

-- each access of the log fits what the accesses before it leave
abbrev pub Replays : List ℕ → List Access → Type 0
Replays bytes [] = Unit {0}
Replays bytes (access ∷ log) = FindsOldValue bytes access × Replays (after_access bytes access) log

-- two ranges of bytes share none
abbrev pub Apart : ℕ → ℕ → ℕ → ℕ → Type 0
Apart offset width other size = (offset + width ≤ other) ⊎ (other + size ≤ offset)

-- the access lies within so many bytes, and its old value is a number of its width
pub record LiesIn (size : ℕ) (access : Access) : Type 0 where
  pub within : access.offset + access.width ≤ size
  pub small : access.old < 256 ^ access.width

-- each access of the log lies within so many bytes, and its old value is a number of its width
abbrev pub AllLieIn : ℕ → List Access → Type 0
AllLieIn size [] = Unit {0}
AllLieIn size (access ∷ log) = LiesIn size access × AllLieIn size log
