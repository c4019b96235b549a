-- Notes of accesses to lines.
use Rattle.std.specs.Prelude.{◌≡◌, ℕ, Bool, true, ◌==◌, ◌&&◌, List}
use Rattle.std.specs.List.{list_any}

-- an access to the line, and whether it was a store
pub record Note : Type 0 where
  pub line : ℕ
  pub write : Bool

-- one of the notes is of the line
abbrev pub touched_in : List Note → ℕ → Bool
touched_in notes line = list_any (λ note. note.line == line) notes

-- one of the notes is of a store to the line
abbrev pub wrote_in : List Note → ℕ → Bool
wrote_in notes line = list_any (λ note. note.write && note.line == line) notes

-- some line is written by the first answers and touched by the second
abbrev pub Meet : (ℕ → Bool) → (ℕ → Bool) → Type 0
Meet wrote touched = (line : ℕ) × (wrote line ≡ true) × (touched line ≡ true)
