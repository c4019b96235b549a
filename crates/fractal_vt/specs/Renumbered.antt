-- Tiebreakers by their places in a table of numbers.
use Rattle.std.specs.Prelude.{◌≡◌, ◌↔◌, ℕ, ◌<◌, length, slice_index, List, All, Contains, IfSome, map, filter, nat_lt}
use Rattle.std.specs.Option.{option_map}
use Rattle.std.specs.List.Sorted.{IsStrictlyIncreasing}
use Rattle.fractal_vt.specs.declared.level.Level.{Level}
use Rattle.fractal_vt.specs.declared.key.Key.{Key}
use Rattle.fractal_vt.specs.Levels.{Open, closed_level}
use Rattle.fractal_vt.specs.Keys.{levels, key_cmp}
use Rattle.fractal_vt.specs.Paths.{Begins}

-- how many numbers of the table are below this one: its place, where a strictly rising table contains it
abbrev pub place_in : List ℕ → ℕ → ℕ
place_in table number = length (filter (λ other. nat_lt other number) table)

-- a level with another number for its tiebreaker's; an open tiebreaker stays open
abbrev pub with_number : (ℕ → ℕ) → Open → Open
with_number number level = record { ts = level.ts; tb = option_map number level.tb }

-- a closed level with its tiebreaker's place for its tiebreaker
abbrev pub renumbered_level : List ℕ → Level → Level
renumbered_level table level = record { ts = level.ts; tb = place_in table level.tb }

-- the same of all levels of a domain or a path
abbrev pub renumbered_levels : List ℕ → List Level → List Level
renumbered_levels table domain = map (renumbered_level table) domain

-- the same of all levels of a key; an open tiebreaker stays open
abbrev pub renumbered_key : List ℕ → Key → Key
renumbered_key table key = record {
  domain = renumbered_levels table key.domain;
  ts = key.ts;
  tb = option_map (place_in table) key.tb;
}

-- the level is open, or the table contains its tiebreaker
abbrev pub IsHeld : List ℕ → Open → Type 0
IsHeld table level = IfSome level.tb (Contains table)

-- the table contains the tiebreakers of a domain or a path
abbrev pub HoldsDomain : List ℕ → List Level → Type 0
HoldsDomain table domain = All (IsHeld table) (map closed_level domain)

-- the table contains the tiebreakers of a key, but for an open one
abbrev pub HoldsKey : List ℕ → Key → Type 0
HoldsKey table key = All (IsHeld table) (levels key)

-- keys whose tiebreakers a table holds compare by the places as by the tiebreakers
abbrev pub RenumberingKeepsKeyOrder : Type 0
RenumberingKeepsKeyOrder =
    (table : List ℕ) (a b : Key) → HoldsKey table a → HoldsKey table b
    → key_cmp (renumbered_key table a) (renumbered_key table b) ≡ key_cmp a b

-- a domain begins another exactly where it does so renumbered
abbrev pub RenumberingKeepsPrefixes : Type 0
RenumberingKeepsPrefixes =
    (table : List ℕ) (a b : List Level) → HoldsDomain table a → HoldsDomain table b
    → Begins (renumbered_levels table a) (renumbered_levels table b) ↔ Begins a b

-- a domain begins the levels of a key exactly where it does so renumbered
abbrev pub RenumberingKeepsDomains : Type 0
RenumberingKeepsDomains =
    (table : List ℕ) (domain : List Level) (key : Key) → HoldsDomain table domain → HoldsKey table key
    → Begins (map closed_level (renumbered_levels table domain)) (levels (renumbered_key table key))
    ↔ Begins (map closed_level domain) (levels key)

-- two numbers of a table have one place exactly where they are one
abbrev pub NumbersStayApart : Type 0
NumbersStayApart =
    (table : List ℕ) (m n : ℕ) → Contains table m → Contains table n → (place_in table m ≡ place_in table n) ↔ (m ≡ n)

-- a number of a strictly rising table has the place at which it stands
abbrev pub PlacesAreWhereNumbersStand : Type 0
PlacesAreWhereNumbersStand =
    (table : List ℕ) (k : ℕ) → IsStrictlyIncreasing table → k < length table → place_in table (slice_index table k) ≡ k
