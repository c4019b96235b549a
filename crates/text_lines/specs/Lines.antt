-- The lines of a text and the parts of a line.
use Rattle.std.specs.Prelude.{ℕ, ◌==◌, ◌&&◌, Bool, nat_le, List, [], ◌∷◌, length, take, drop, Some, None}
use Rattle.std.specs.Prelude.{option_map, if◌then◌else◌}
use Rattle.std.specs.declared.option.Option.{Option}
use Rattle.std.specs.Str.{bytes_eq}

infixl 10 ◌>>=◌
-- what a function makes of a value, where there is one
abbrev pub ◌>>=◌ : {A B : Type 0} → Option A → (A → Option B) → Option B
None >>= f = None
(Some x) >>= f = f x

-- a value, where a test holds
abbrev pub some_if : {A : Type 0} → Bool → A → Option A
some_if b x = if b then Some x else None

-- a byte at the front of the first line
abbrev pub onto : ℕ → List (List ℕ) → List (List ℕ)
onto x [] = (x ∷ []) ∷ []
onto x (l ∷ ls) = (x ∷ l) ∷ ls

-- the lines of a text, each ended by a newline (10), which the last one may lack
abbrev pub lines_of : List ℕ → List (List ℕ)
lines_of [] = []
lines_of (x ∷ xs) = if x == 10 then [] ∷ lines_of xs else onto x (lines_of xs)

-- the bytes before the first `mark`, and those after it
abbrev pub cut : ℕ → List ℕ → Option (List ℕ × List ℕ)
cut mark [] = None
cut mark (x ∷ xs) = if x == mark then Some ([], xs) else option_map (λ p. (x ∷ p.0, p.1)) (cut mark xs)

-- the rest of a line after a prefix
unfoldable pub behind : List ℕ → List ℕ → Option (List ℕ)
behind front line =
    if nat_le (length front) (length line) && bytes_eq (take (length front) line) front
    then Some (drop (length front) line) else None
