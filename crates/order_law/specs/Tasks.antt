-- What the order of tasks reads of them.
use Rattle.std.specs.Prelude.{◌≡◌, ◌⊎◌, ℕ, Bool, false, List, [], ◌∷◌, ◌++◌, Option, Some}
use Rattle.fractal_vt.specs.Levels.{Open}

-- the levels of a task's domain and its own level, whether each domain outside its own is ordered and whether its
-- own is, and its creator where that is uncommitted
pub record Keyed : Type 0 where
  pub domain : List Open
  pub last : Open
  pub kinds : List Bool
  pub ordered : Bool
  pub creator : Option ℕ

-- all levels of the task's key
abbrev pub levels_of : Keyed → List Open
levels_of task = task.domain ++ task.last ∷ []

-- the task is dispatched, under this number
abbrev pub HasNumber : Keyed → ℕ → Type 0
HasNumber task number = task.last.tb ≡ Some number

-- in an unordered domain each timestamp is 0
abbrev pub IsTimely : Bool → Open → Type 0
IsTimely ordered level = ordered ≡ false → level.ts ≡ 0

-- a child in its creator's own domain
abbrev pub IsSame : Keyed → Keyed → Type 0
IsSame creator child = (child.domain ≡ creator.domain) × (child.kinds ≡ creator.kinds)
    × (child.ordered ≡ creator.ordered)

-- a child in the subdomain that its creator made, whose domain is the creator's whole key
abbrev pub IsSub : Keyed → Keyed → Type 0
IsSub creator child = (child.domain ≡ levels_of creator) × (child.kinds ≡ creator.kinds ++ creator.ordered ∷ [])

-- a child one domain further out than its creator, where this level of the creator lies
abbrev pub IsSuper : Keyed → Keyed → Open → Type 0
IsSuper creator child level = (creator.domain ≡ child.domain ++ level ∷ [])
    × (creator.kinds ≡ child.kinds ++ child.ordered ∷ [])

-- a child is in one of the three domains (`Place`)
abbrev pub Kin : Keyed → Keyed → Type 0
Kin creator child = IsSame creator child ⊎ IsSub creator child ⊎ ((level : Open) × IsSuper creator child level)
