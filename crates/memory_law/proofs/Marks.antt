-- Logs in the order of their tasks, each with whether it is taken back, and logs that touch nothing that others wrote.
use Rattle.std.specs.Prelude.{ℕ, Bool, true, false, List, [], ◌∷◌, ◌++◌, Option, Some, None}
use Rattle.undo_log.specs.declared.access.Access.{Access}
use Rattle.undo_log.specs.Undo.{undone}
use Rattle.memory_law.specs.Accesses.{Apart}

-- no access of the log shares a byte with the range
abbrev pub Untouched : ℕ → ℕ → List Access → Type 0
Untouched offset width [] = Unit {0}
Untouched offset width (access ∷ log) = Apart offset width access.offset access.width × Untouched offset width log

-- the access, if it is a store, shares no byte with the range
abbrev pub ApartIfStore : ℕ → ℕ → ℕ → ℕ → Option ℕ → Type 0
ApartIfStore offset width at size None = Unit {0}
ApartIfStore offset width at size (Some value) = Apart offset width at size

-- no store of the log shares a byte with the range
abbrev pub Unwritten : ℕ → ℕ → List Access → Type 0
Unwritten offset width [] = Unit {0}
Unwritten offset width (access ∷ log) =
    ApartIfStore offset width access.offset access.width access.new × Unwritten offset width log

-- no access of the later log shares a byte with this one, if it is a store
abbrev pub UntouchedIfStore : ℕ → ℕ → Option ℕ → List Access → Type 0
UntouchedIfStore offset width None later = Unit {0}
UntouchedIfStore offset width (Some value) later = Untouched offset width later

-- no access of the later log shares a byte with a store of the earlier one
abbrev pub Clear : List Access → List Access → Type 0
Clear [] later = Unit {0}
Clear (access ∷ log) later = UntouchedIfStore access.offset access.width access.new later × Clear log later

abbrev pub Marks : Type 0
Marks = List (Bool × List Access)

abbrev pub all_of : Marks → List Access
all_of [] = []
all_of ((mark, log) ∷ rest) = log ++ all_of rest

abbrev pub kept_of : Marks → List Access
kept_of [] = []
kept_of ((true, log) ∷ rest) = kept_of rest
kept_of ((false, log) ∷ rest) = log ++ kept_of rest

-- the memory after the marked logs are taken back, the last one first
abbrev pub without : List ℕ → Marks → List ℕ
without memory [] = memory
without memory ((true, log) ∷ rest) = undone log (without memory rest)
without memory ((false, log) ∷ rest) = without memory rest

-- what a marked log wrote, no later log touches that is kept
abbrev pub IsClosed : Marks → Type 0
IsClosed [] = Unit {0}
IsClosed ((true, log) ∷ rest) = Clear log (kept_of rest) × IsClosed rest
IsClosed ((false, log) ∷ rest) = IsClosed rest
