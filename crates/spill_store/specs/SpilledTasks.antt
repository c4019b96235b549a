-- What a block holds.
use Rattle.std.specs.Prelude.{◌≡◌, ℕ, ◌+◌, true, Option, List, [], ◌∷◌, Some, None, All, map, remove, length, slice_get}
use Rattle.std.specs.Ordering.{on}
use Rattle.std.specs.declared.cmp.Ordering.{Ordering}
use Rattle.fractal_vt.specs.Sorted.{after_insert}
use Rattle.fractal_vt.specs.Renumbered.{renumbered_levels, HoldsKey}
use Rattle.fractal_vt.specs.declared.level.Level.{Level}
use Rattle.fractal_vt.specs.declared.key.Key.{Key}
use Rattle.fractal_vt.specs.Keys.{key_cmp}
use Rattle.fractal_vt.specs.Least.{IsFirstLeast}
use Rattle.task_desc.specs.declared.desc.Desc.{Desc}
use Rattle.task_desc.specs.Record.{fields_of, is_record}

-- a spilled task: its descriptor, and the levels of its domain
pub record Spilled : Type 0 where
  pub desc : Desc
  pub domain : List Level

-- the tasks of a block, and how many more pushes are spare
pub record BlockValue : Type 0 where
  pub tasks : List Spilled
  pub spare : ℕ

-- the bytes are the record of a descriptor, and the key is the open key of its task
pub record IsKeptRecord (bytes : List ℕ) (key : Key) : Type 0 where
  pub valid : is_record bytes ≡ true
  pub inner : length key.domain + 1 ≡ (fields_of bytes).depth
  pub ts : key.ts ≡ (fields_of bytes).ts
  pub open_tie : key.tb ≡ None

-- a spilled task's key: its domain's levels and its timestamp, with an open tiebreaker
abbrev pub open_key : Spilled → Key
open_key task = record { domain = task.domain; ts = task.desc.ts; tb = None }

-- tasks by their open keys
abbrev pub by_key : Spilled → Spilled → Ordering
by_key = on open_key key_cmp

-- the tasks after a push: the new one is after all whose keys are not greater
abbrev pub after_push : List Spilled → Spilled → List Spilled
after_push tasks task = after_insert by_key task tasks

-- the open key of the first task
abbrev pub first_key : List Spilled → Option Key
first_key [] = None
first_key (task ∷ tasks) = Some (open_key task)

-- the task with the tiebreakers of its domain replaced by their places in a table
abbrev pub renumbered_spilled : List ℕ → Spilled → Spilled
renumbered_spilled table task = record task { domain = renumbered_levels table task.domain }

-- the table holds the tiebreakers of each task's domain
abbrev pub HoldsSpilled : List ℕ → List Spilled → Type 0
HoldsSpilled table tasks = All (λ task. HoldsKey table (open_key task)) tasks

-- the first task of a least open key
pub record IsLeastInBlock (tasks : List Spilled) (place : ℕ) (task : Spilled) : Type 0 where
  pub there : slice_get tasks place ≡ Some task
  pub least : IsFirstLeast key_cmp (map open_key tasks) place

-- the first task of a least open key is taken out, and all others stay in their order
pub record TakesLeast (old new : List Spilled) (task : Spilled) : Type 0 where
  pub place : ℕ
  pub least : IsLeastInBlock old place task
  pub others : new ≡ remove old place

-- the open key of the task that is taken next
pub record IsLeastKey (tasks : List Spilled) (key : Key) : Type 0 where
  pub place : ℕ
  pub task : Spilled
  pub least : IsLeastInBlock tasks place task
  pub of_task : key ≡ open_key task
