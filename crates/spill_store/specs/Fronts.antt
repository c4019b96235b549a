-- The blocks of all tiles, and the first of their tasks.
use Rattle.std.specs.Prelude.{◌≡◌, ◌≢◌, ◌+◌, ◌≤◌, ◌<◌, ℕ, List, [], ◌∷◌, Option, Some, None, map, length, slice_get}
use Rattle.std.specs.Prelude.{slice_index_or, slice_set}
use Rattle.std.specs.Ordering.{nat_cmp, on, then_cmp}
use Rattle.std.specs.declared.cmp.Ordering.{Ordering}
use Rattle.std.specs.declared.cmp.Ordering.TheVariants.{Greater, Equal}
use Rattle.fractal_vt.specs.Keys.{key_cmp}
use Rattle.fractal_vt.specs.declared.key.Key.{Key}
use Rattle.spill_store.specs.SpilledTasks.{Spilled, BlockValue, first_key, open_key, after_push, TakesLeast}

-- the blocks of the tiles
pub record BlocksValue : Type 0 where
  pub items : List BlockValue

-- the spilled tasks that each block holds
abbrev pub lists_in : List BlockValue → List (List Spilled)
lists_in blocks = map (λ block. block.tasks) blocks

-- a tile with the open key of the first task of its block
pub record Front : Type 0 where
  pub key : Option Key
  pub tile : ℕ

-- 0 where there is a key
abbrev pub key_rank : Option Key → ℕ
key_rank (Some key) = 0
key_rank None = 1

-- the key, where there is one
abbrev pub key_or : Option Key → Key
key_or (Some key) = key
key_or None = record { domain = []; ts = 0; tb = None }

-- tiles by the keys of their first tasks, and then by their numbers; those without tasks are last
abbrev pub front_cmp : Front → Front → Ordering
front_cmp =
    then_cmp (on (λ f. key_rank f.key) nat_cmp)
    (then_cmp (on (λ f. key_or f.key) key_cmp) (on (λ f. f.tile) nat_cmp))

-- the front of a tile
abbrev pub front_at : List (List Spilled) → ℕ → Front
front_at lists tile = record { key = first_key (slice_index_or lists tile []); tile = tile }

-- the front of the first tile does not come after that of the second
abbrev pub FrontPrecedes : List (List Spilled) → ℕ → ℕ → Type 0
FrontPrecedes lists tile other = front_cmp (front_at lists tile) (front_at lists other) ≢ Greater

-- no tile's first task comes before that of this tile
pub record IsFront (lists : List (List Spilled)) (front : ℕ) : Type 0 where
  pub within : front < length lists
  pub first : (tile : ℕ) → tile < length lists → FrontPrecedes lists front tile

-- but perhaps that of one other
pub record IsFrontBut (lists : List (List Spilled)) (front but : ℕ) : Type 0 where
  pub within : front < length lists
  pub others : (tile : ℕ) → tile < length lists → tile ≢ but → FrontPrecedes lists front tile

-- this is the key of the first task of a tile, and no task of any tile comes before that one
pub record IsFirstOfAll (lists : List (List Spilled)) (tile : ℕ) (key : Key) : Type 0 where
  pub within : tile < length lists
  pub own : first_key (slice_index_or lists tile []) ≡ Some key
  pub upto : (other place : ℕ) (task : Spilled) → other < length lists
      → slice_get (slice_index_or lists other []) place ≡ Some task
      → key_cmp key (open_key task) ≢ Greater
  pub tied : (other place : ℕ) (task : Spilled) → other < length lists
      → slice_get (slice_index_or lists other []) place ≡ Some task
      → key_cmp key (open_key task) ≡ Equal → tile ≤ other

-- the block of one tile changes from one to another, and all others stay
pub record ChangesOne (tile : ℕ) (old new : List BlockValue) (before after : BlockValue) : Type 0 where
  pub before_is : before ≡ slice_index_or old tile before
  pub new_is : new ≡ slice_set old tile after

-- a task goes into the block of a tile
pub record Pushes (tile : ℕ) (task : Spilled) (old new : List BlockValue) : Type 0 where
  pub before : BlockValue
  pub after : BlockValue
  pub one : ChangesOne tile old new before after
  pub tasks : after.tasks ≡ after_push before.tasks task
  pub spare : before.spare ≤ after.spare + 1

-- the first task goes out of the block of a tile
pub record TakesFirst (tile : ℕ) (task : Spilled) (old new : List BlockValue) : Type 0 where
  pub before : BlockValue
  pub after : BlockValue
  pub one : ChangesOne tile old new before after
  pub first : before.tasks ≡ task ∷ after.tasks
  pub least : TakesLeast before.tasks after.tasks task
  pub spare : after.spare ≡ before.spare + 1

-- the block of a tile has no fewer spare pushes
pub record Reserves (tile : ℕ) (old new : List BlockValue) : Type 0 where
  pub before : BlockValue
  pub after : BlockValue
  pub one : ChangesOne tile old new before after
  pub tasks : after.tasks ≡ before.tasks
  pub stays : before.spare ≤ after.spare
