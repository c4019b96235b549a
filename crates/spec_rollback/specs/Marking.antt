-- Marks of the tasks with which an access conflicts.
use Rattle.std.specs.Prelude.{◌≡◌, ◌<◌, ◌≤◌, ◌↔◌, ◌⊎◌, ◌&&◌, ℕ, Bool, true, false, List, [], length, Option}
use Rattle.std.specs.Prelude.{None, Some, IsSome}
use Rattle.std.specs.Prelude.{map, option_map, slice_get, slice_index, slice_index_or}
use Rattle.std.specs.Ordering.{is_lt}
use Rattle.abort_cascade.specs.Cascade.{Marked}
use Rattle.abort_cascade.specs.Growth.{IsListOf}
use Rattle.fractal_vt.specs.Keys.{key_cmp}
use Rattle.spec_state.specs.declared.task.Task.{Task}
use Rattle.spec_state.specs.Filters.{has_touched, has_written}
use Rattle.spec_state.specs.Tasks.{is_dispatched}
use Rattle.spec_state.specs.View.{View, core_ids}
use Rattle.spec_rollback.specs.declared.marking.Dispatched.{Dispatched}
use Rattle.spec_state.specs.Queries.{Conflicts}

-- a store conflicts with a task that touched its line, and a load with one that wrote it, by their filters
abbrev pub has_line : Bool → Task → ℕ → Bool
has_line true task = has_touched task
has_line false task = has_written task

-- an access of the task conflicts with this other task; false where there is none
abbrev pub conflicts : Task → ℕ → Bool → Option Task → Bool
conflicts task line write None = false
conflicts task line write (Some other) = is_dispatched other && has_line write other line && is_lt
    (key_cmp task.key other.key)

-- an access of the task conflicts with that of these tasks that has this id
abbrev pub conflicts_at : List (Option Task) → Task → ℕ → Bool → ℕ → Bool
conflicts_at tasks task line write id = conflicts task line write (slice_index_or tasks id None)

-- one of the first items, so many, gives this id
abbrev pub IsSeen : {X : Type 0} → (X → Option ℕ) → List X → ℕ → ℕ → Type 0
IsSeen of items count id = (place : ℕ) × (place < count) × (option_map of (slice_get items place) ≡ Some (Some id))

-- what these places hold are tasks
abbrev pub HoldTasks : {X : Type 0} → (X → Option ℕ) → List X → List (Option Task) → Type 0
HoldTasks of items tasks = (id : ℕ) → IsSeen of items (length items) id → IsSome (slice_index_or tasks id None)

-- with what these places hold, from one on up to another, no access of this kind conflicts
abbrev pub ArePassed : {X : Type 0} → (X → Option ℕ) → List X → List (Option Task) → ℕ → Bool → ℕ → ℕ → Type 0
ArePassed of items tasks line write from upto = (place id : ℕ) → from ≤ place → place < upto
    → option_map of (slice_get items place) ≡ Some (Some id) → (task : Task)
    → conflicts_at tasks task line write id ≡ false

-- the id stands on a core of a tile or in its commit queue
abbrev pub IsInTile : List (Option ℕ) → List ℕ → ℕ → Type 0
IsInTile cores finished id = IsSeen (λ held. held) cores (length cores) id ⊎ IsSeen Some finished (length finished) id

-- that of one of the first tiles, so many
abbrev pub IsInTiles : List (List (Option ℕ)) → List (List ℕ) → ℕ → ℕ → Type 0
IsInTiles cores finished count id = (tile : ℕ) × (tile < count)
    × (IsInTile (slice_index_or cores tile []) (slice_index_or finished tile []) id)

-- one of the first ids, so many
abbrev pub IsBelow : ℕ → ℕ → Type 0
IsBelow count id = id < count

-- the ids that the cores of each tile hold
abbrev pub held_in : Dispatched → List (List (Option ℕ))
held_in tiles = map (λ held. core_ids held.items) tiles.cores.now

-- the ids in the commit queue of each tile
abbrev pub ids_in : Dispatched → List (List ℕ)
ids_in tiles = map (λ queue. queue.ids) tiles.finished.now

-- the id stands on a core of one of these tiles, or in its commit queue
abbrev pub StandsIn : Dispatched → ℕ → Type 0
StandsIn tiles = IsInTiles (held_in tiles) (ids_in tiles) (length tiles.cores.now)

-- every id in these tiles has a task
abbrev pub StandTasksIn : Dispatched → List (Option Task) → Type 0
StandTasksIn tiles tasks = (id : ℕ) → StandsIn tiles id → IsSome (slice_index_or tasks id None)

-- the id is marked, where something was found: where nothing was, the marks say nothing
abbrev pub IsMarkedIfFound : ℕ → List Bool → ℕ → Type 0
IsMarkedIfFound found marks id = (0 < found) × Marked marks id

-- the first so many members are the marked ids, where something was found
abbrev pub IsListed : ℕ → List Bool → List ℕ → Type 0
IsListed found marks members = 0 < found → IsListOf marks members found

-- beside what was found before, those of these ids are found that pass the test, and are appended to the list
pub record Finds (test : ℕ → Bool) (these : ℕ → Type 0) (found : ℕ) (old : List Bool) (before : List ℕ) (now : ℕ)
    (new : List Bool) (after : List ℕ) : Type 0 where
  pub exact : (id : ℕ) → IsMarkedIfFound now new id ↔ (IsMarkedIfFound found old id ⊎ (these id × (test id ≡ true)))
  pub size : length new ≡ length old
  pub places : length after ≡ length before
  pub listed : IsListed now new after
  pub stay : (k : ℕ) → k < found → slice_index after k ≡ slice_index before k
  pub more : found ≤ now

-- none conflicts with the access; or the marks are those that do
pub record FindsConflicts (view : View) (task : Task) (line : ℕ) (write : Bool) (found : ℕ) (marks : List Bool) :
    Type 0 where
  pub none : found ≡ 0 → (id : ℕ) → Conflicts view task line write id → ⊥
  pub some : 0 < found → (id : ℕ) → Marked marks id ↔ Conflicts view task line write id
