-- What the events of the machine change of what memory reads of the tasks.
use Rattle.std.specs.Prelude.{◌↔◌, ◌==◌, if◌then◌else◌, ◌≡◌, ◌≢◌, ◌⊎◌, ℕ, Bool, true, false, List, [], ◌∷◌, ◌++◌}
use Rattle.std.specs.Prelude.{length, Option, Some, None}
use Rattle.undo_log.specs.declared.access.Access.{Access}
use Rattle.undo_log.specs.Number.{number_at, IsAccessible}
use Rattle.line_table.specs.Note.{wrote_in}
use Rattle.memory_law.specs.Notes.{notes_of}
use Rattle.memory_law.specs.Tasks.{Logged, IsNoted, Earlier}

-- a dispatched task's log grows by an access to the memory, which its filter notes, and all other tasks stay
pub record AccessesInLogs (line : ℕ) (memory : List ℕ) (old new : ℕ → Option Logged) (id : ℕ) (was now : Logged)
    (access : Access) : Type 0 where
  pub there : old id ≡ Some was
  pub changed : new id ≡ Some now
  pub others : (k : ℕ) → k ≢ id → new k ≡ old k
  pub was_dispatched : was.dispatched ≡ true
  pub levels : now.levels ≡ was.levels
  pub dispatched : now.dispatched ≡ was.dispatched
  pub log : now.log ≡ was.log ++ access ∷ []
  pub accessible : IsAccessible (length memory) access.offset access.width
  pub old_is : access.old ≡ number_at memory access.offset access.width
  pub noted : IsNoted (length memory) line now

-- no later dispatched task wrote the line, by its filter
abbrev pub NoLaterWrote : (ℕ → Option Logged) → Logged → ℕ → Type 0
NoLaterWrote tasks task at = (k : ℕ) (other : Logged) → tasks k ≡ Some other → other.dispatched ≡ true
    → Earlier task other → other.wrote at ≡ false

-- no later dispatched task touched the line, by its filter
abbrev pub NoLaterTouched : (ℕ → Option Logged) → Logged → ℕ → Type 0
NoLaterTouched tasks task at = (k : ℕ) (other : Logged) → tasks k ≡ Some other → other.dispatched ≡ true
    → Earlier task other → other.touched at ≡ false

-- the set holds each later dispatched task that wrote the line, by its filter
abbrev pub HoldsLaterWriters : (ℕ → Bool) → (ℕ → Option Logged) → Logged → ℕ → Type 0
HoldsLaterWriters set tasks task at =
    (k : ℕ) (other : Logged) → tasks k ≡ Some other → other.dispatched ≡ true → Earlier task other
    → other.wrote at ≡ true → set k ≡ true

-- the set holds each later dispatched task that touched the line, by its filter
abbrev pub HoldsLaterTouchers : (ℕ → Bool) → (ℕ → Option Logged) → Logged → ℕ → Type 0
HoldsLaterTouchers set tasks task at =
    (k : ℕ) (other : Logged) → tasks k ≡ Some other → other.dispatched ≡ true → Earlier task other
    → other.touched at ≡ true → set k ≡ true

-- with each member the set contains each later dispatched task whose filter reports a line as touched to which the
-- member's log has a store
abbrev pub HoldsLater : ℕ → (ℕ → Bool) → (ℕ → Option Logged) → Type 0
HoldsLater line set tasks =
    (a b : ℕ) (x y : Logged) (at : ℕ) → tasks a ≡ Some x → tasks b ≡ Some y → x.dispatched ≡ true → y.dispatched ≡ true
    → set a ≡ true → Earlier x y → wrote_in (notes_of line x.log) at ≡ true → y.touched at ≡ true → set b ≡ true

-- each member of the set leaves, or is idle with an empty log, and all other tasks stay
pub record TakesBackInLogs (set : ℕ → Bool) (old new : ℕ → Option Logged) : Type 0 where
  pub members : (id : ℕ) (task : Logged) → set id ≡ true → new id ≡ Some task
      → (task.dispatched ≡ false) × (task.log ≡ [])
  pub others : (id : ℕ) → set id ≡ false → new id ≡ old id

-- an idle task is dispatched with an empty log, its key ties with that of no dispatched task, and all other tasks stay
pub record DispatchesInLogs (old new : ℕ → Option Logged) (id : ℕ) (now : Logged) : Type 0 where
  pub idle : (was : Logged) → old id ≡ Some was → was.dispatched ≡ false
  pub changed : new id ≡ Some now
  pub others : (k : ℕ) → k ≢ id → new k ≡ old k
  pub dispatched : now.dispatched ≡ true
  pub log : now.log ≡ []
  pub ordered : (k : ℕ) (other : Logged) → k ≢ id → old k ≡ Some other → other.dispatched ≡ true
      → Earlier other now ⊎ Earlier now other

-- a dispatched task leaves, which is earlier than all other dispatched ones, and all other tasks stay
pub record CommitsInLogs (old new : ℕ → Option Logged) (id : ℕ) (task : Logged) : Type 0 where
  pub there : old id ≡ Some task
  pub dispatched : task.dispatched ≡ true
  pub least : (k : ℕ) (other : Logged) → k ≢ id → old k ≡ Some other → other.dispatched ≡ true → Earlier task other
  pub gone : new id ≡ None
  pub others : (k : ℕ) → k ≢ id → new k ≡ old k

-- the dispatched tasks stay, and each idle task has an empty log
pub record KeepsDispatched (old new : ℕ → Option Logged) : Type 0 where
  pub stay : (id : ℕ) (task : Logged) → task.dispatched ≡ true → (old id ≡ Some task) ↔ (new id ≡ Some task)
  pub idle : (id : ℕ) (task : Logged) → new id ≡ Some task → task.dispatched ≡ false → task.log ≡ []

-- the member is the latest dispatched one of the set
pub record IsLatestInLogs (set : ℕ → Bool) (tasks : ℕ → Option Logged) (id : ℕ) (task : Logged) : Type 0 where
  pub there : tasks id ≡ Some task
  pub dispatched : task.dispatched ≡ true
  pub member : set id ≡ true
  pub none_later : (k : ℕ) (other : Logged) → tasks k ≡ Some other → other.dispatched ≡ true → Earlier task other
      → set k ≡ false

-- the set without one member
abbrev pub without_one : ℕ → (ℕ → Bool) → ℕ → Bool
without_one id set k = if k == id then false else set k
