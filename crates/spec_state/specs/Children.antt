-- Where the children of each task stand, so that a commit finds them without a search.
use Rattle.std.specs.Prelude.{◌≡◌, ◌≢◌, ◌<◌, ◌≤◌, ◌^◌, ℕ, Bool, List, [], length, Option, Some, None, IsTrue}
use Rattle.std.specs.Prelude.{slice_get, slice_index_or}
use Rattle.task_desc.specs.declared.calls.TheConstants.{MAX_CHILDREN}
use Rattle.spec_state.specs.declared.task.Creator.TheVariants.{Live}
use Rattle.spec_state.specs.declared.task.Task.{Task}

-- here stands the child at this place of the task of this id, which is to commit yet
pub record IsChildAt (id place : ℕ) (stands : Option Task) : Type 0 where
  pub child : Task
  pub there : stands ≡ Some child
  pub made_by : child.creator ≡ Live (record { 0 = id }) place

-- for each task the ids under which its children were put last, by their places; and whether each child still has its
-- noted id
pub record ChildrenValue : Type 0 where
  pub lists : List (List ℕ)
  pub complete : Bool

-- the ids that are noted for the children of the task of this id, by their places
abbrev pub noted_of : ChildrenValue → ℕ → List ℕ
noted_of children id = slice_index_or children.lists id []

-- where the notes are complete, each child is noted under the id where it stands
abbrev pub AreNoted : List (Option Task) → ChildrenValue → Type 0
AreNoted tasks children = IsTrue children.complete → (k id place : ℕ)
    → IsChildAt id place (slice_index_or tasks k None) → slice_get (noted_of children id) place ≡ Some k

-- where the notes are complete, each child is noted under its id, but perhaps the one that has this id
abbrev pub AreNotedBut : ℕ → List (Option Task) → ChildrenValue → Type 0
AreNotedBut last tasks children = IsTrue children.complete → (k id place : ℕ) → k ≢ last
    → IsChildAt id place (slice_index_or tasks k None) → slice_get (noted_of children id) place ≡ Some k

-- at this place stands the id, and elsewhere what stood there
pub record NotesAt (place id : ℕ) (old new : List ℕ) : Type 0 where
  pub here : slice_get new place ≡ Some id
  pub others : (p : ℕ) → p ≢ place → slice_get new p ≡ slice_get old p

-- the child at this place of this task is noted under the id, and all others are as they were
pub record Notes (creator place id : ℕ) (old new : ChildrenValue) : Type 0 where
  pub own : NotesAt place id (noted_of old creator) (noted_of new creator)
  pub others : (k : ℕ) → k ≢ creator → noted_of new k ≡ noted_of old k

-- the child at this place of this task doesn't stand where it was noted, unless that is under this id
abbrev pub IsVacantPlace : List (Option Task) → ℕ → ℕ → ℕ → ChildrenValue → Type 0
IsVacantPlace tasks id creator place children = (k : ℕ) → slice_get (noted_of children creator) place ≡ Some k → k ≢ id
    → IsChildAt creator place (slice_index_or tasks k None) → ⊥

-- the notes have memory for this id at this place of this task: each place below it is noted
pub record HasPlace (id creator place : ℕ) (children : ChildrenValue) : Type 0 where
  pub short : id < 2 ^ 32
  pub known : creator < length children.lists
  pub next : place ≤ length (noted_of children creator)
  pub fits : place < MAX_CHILDREN

-- the child under this id can be noted at this place of this task
pub record IsNotable (tasks : List (Option Task)) (id creator place : ℕ) (children : ChildrenValue) : Type 0 where
  pub free : IsVacantPlace tasks id creator place children
  pub has_place : HasPlace id creator place children
