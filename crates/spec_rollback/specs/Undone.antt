-- The logs of some tasks, undone one after another.
use Rattle.std.specs.Prelude.{◌≡◌, ℕ, false, List, [], ◌∷◌, AllPairs, Option, None, Some, option_map, slice_index_or}
use Rattle.std.specs.Prelude.{if◌then◌else◌}
use Rattle.std.specs.Option.{option_cmp}
use Rattle.std.specs.Ordering.{is_lt}
use Rattle.std.specs.declared.cmp.Ordering.{Ordering}
use Rattle.fractal_vt.specs.declared.key.Key.{Key}
use Rattle.fractal_vt.specs.Keys.{key_cmp}
use Rattle.undo_log.specs.Undo.{undone}
use Rattle.spec_state.specs.declared.task.Task.{Task}
use Rattle.spec_state.specs.Tasks.{is_dispatched}

-- the key of the task of an id, if it has one
abbrev pub key_in : List (Option Task) → ℕ → Option Key
key_in tasks id = option_map (λ task. task.key) (slice_index_or tasks id None)

-- ids compared by the keys of their tasks, an id with no task before all others
abbrev pub ids_cmp : List (Option Task) → ℕ → ℕ → Ordering
ids_cmp tasks a b = option_cmp key_cmp (key_in tasks a) (key_in tasks b)

-- none of these is earlier than one after it
abbrev pub Falls : List (Option Task) → List ℕ → Type 0
Falls tasks ids = AllPairs (λ a b. is_lt (ids_cmp tasks a b) ≡ false) ids

-- the memory after the log of the task, where it is there and dispatched, is undone
abbrev pub undone_one : Option Task → List ℕ → List ℕ
undone_one None memory = memory
undone_one (Some task) memory = if is_dispatched task then undone task.log memory else memory

-- the memory after those of these ids are undone, the first one first
abbrev pub undone_down : List (Option Task) → List ℕ → List ℕ → List ℕ
undone_down tasks [] memory = memory
undone_down tasks (id ∷ ids) memory = undone_down tasks ids (undone_one (slice_index_or tasks id None) memory)
