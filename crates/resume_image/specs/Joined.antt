-- A run and one that went on from its saved image, as one run.
use Rattle.std.specs.Prelude.{◌≡◌, ◌<◌, ℕ, ◌+◌, ◌==◌, true, List, ◌++◌, length, map, slice_index_or, ◌↔◌}
use Rattle.std.specs.Prelude.{if◌then◌else◌}
use Rattle.guest_image.specs.ImageValue.{ImageValue, IsImage}
use Rattle.task_desc.specs.declared.desc.Name.{Name}
use Rattle.run_journal.specs.declared.journal.Entry.{Entry}
use Rattle.conflict_book.specs.spec_state.declared.pending.Pending.{Pending}
use Rattle.conflict_book.specs.spec_state.Pendings.{RunLeaves}
use Rattle.conflict_book.specs.serial_machine.Run.{IsRun}
use Rattle.conflict_book.specs.serial_machine.State.{SerialState}
use Rattle.conflict_book.specs.serial_machine.Turn.{is_pending}
use Rattle.resume_image.specs.Pendings.{AreOfRoot}
use Rattle.resume_image.specs.Saved.{saved_image}

-- the name in the first run's image of a task of a run that went on after so many turns: a task of the saved image is
-- the pending task at its place, and a child's creator took its turn so many turns later; a place past them, which no
-- run names, keeps its name
abbrev pub shifted_name : ℕ → List Pending → Name → Name
shifted_name turns pendings name =
    if name.creator == 0
    then slice_index_or (map (λ p. p.name) pendings) name.index name
    else record { creator = turns + name.creator; index = name.index }

-- an entry of the run that went on, under that name
abbrev pub shifted_entry : ℕ → List Pending → Entry → Entry
shifted_entry turns pendings e = record e { name = shifted_name turns pendings e.name }

-- the first journal, followed by the second with its names shifted
abbrev pub joined_journal : List Entry → List Pending → List Entry → List Entry
joined_journal one pendings two = one ++ map (shifted_entry (length one) pendings) two

-- the two runs are one run of the image: its output is that of both, its memory that of the second, and what pends
-- after it are the tasks that pend after the second, under their shifted names
pub record IsJoinedRun (image : ImageValue) (budget : ℕ) (one two : List Entry) (output : List ℕ)
    (pendings : List Pending) (second : SerialState) : Type 0 where
  pub state : SerialState
  pub run : IsRun image budget (joined_journal one pendings two) state
  pub memory_is : state.memory ≡ second.memory
  pub output_is : state.output ≡ output ++ second.output
  pub pending : (name : Name) → is_pending name state.stack ≡ true
      ↔ ((own : Name) × (is_pending own second.stack ≡ true) × (name ≡ shifted_name (length one) pendings own))

-- a run whose pending tasks are all in the root domain, and a run of the image with these tasks and the memory of the
-- first are one run
abbrev pub RunsJoin : Type 0
RunsJoin =
    (image : ImageValue) → IsImage image → (budget : ℕ) → (one two : List Entry) → (memory output : List ℕ)
    → (pendings : List Pending) → RunLeaves image budget one memory output pendings → 0 < length pendings
    → AreOfRoot pendings → (second : SerialState) → IsRun (saved_image image memory pendings) budget two second
    → IsJoinedRun image budget one two output pendings second
