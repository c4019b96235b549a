-- What calls of `load` and `store` do and log, and what the memory is after their rollback.
use Rattle.std.specs.Prelude.{◌≡◌, ℕ, List, [], ◌∷◌, Option, Some, None, All}
use Rattle.undo_log.specs.declared.access.Access.{Access}
use Rattle.undo_log.specs.Number.{number_at, after_write, AreBytes, IsAccessible}

-- a call of `load` or `store`
pub data MemoryCall : Type 0 where
  Load : (offset width : ℕ) → MemoryCall
  Store : (offset width value : ℕ) → MemoryCall

-- the access that the call logs, on the bytes before it
abbrev pub access_of : List ℕ → MemoryCall → Access
access_of bytes (Load offset width) =
    record { offset = offset; width = width; old = number_at bytes offset width; new = None }
access_of bytes (Store offset width value) =
    record { offset = offset; width = width; old = number_at bytes offset width; new = Some value }

-- the bytes after the call
abbrev pub after_call : List ℕ → MemoryCall → List ℕ
after_call bytes (Load offset width) = bytes
after_call bytes (Store offset width value) = after_write bytes offset width value

-- the bytes after these calls, one after another
abbrev pub after_calls : List ℕ → List MemoryCall → List ℕ
after_calls bytes [] = bytes
after_calls bytes (call ∷ calls) = after_calls (after_call bytes call) calls

-- the log of these calls, made one after another from an empty log
abbrev pub log_of_calls : List ℕ → List MemoryCall → List Access
log_of_calls bytes [] = []
log_of_calls bytes (call ∷ calls) = access_of bytes call ∷ log_of_calls (after_call bytes call) calls

-- the bytes after this number is written back there, where a number had been stored
abbrev pub after_restore : ℕ → ℕ → ℕ → Option ℕ → List ℕ → List ℕ
after_restore offset width old None bytes = bytes
after_restore offset width old (Some value) bytes = after_write bytes offset width old

-- the bytes after the access is rolled back
abbrev pub access_undone : Access → List ℕ → List ℕ
access_undone access bytes = after_restore access.offset access.width access.old access.new bytes

-- the bytes after the stores of a log are rolled back, the last one first
abbrev pub undone : List Access → List ℕ → List ℕ
undone [] bytes = bytes
undone (access ∷ log) bytes = access_undone access (undone log bytes)

-- each access of the log lies within so many bytes
abbrev pub AllAccessible : ℕ → List Access → Type 0
AllAccessible size log = All (λ access. IsAccessible size access.offset access.width) log

-- to undo the log of any calls gives the bytes before them
abbrev pub UndoRestores : Type 0
UndoRestores =
    (bytes : List ℕ) (calls : List MemoryCall) → AreBytes bytes
    → undone (log_of_calls bytes calls) (after_calls bytes calls) ≡ bytes
