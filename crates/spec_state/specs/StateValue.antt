-- What contracts see of a state: the view, what is spare for the next event, and its notes of a cascade.
use Rattle.std.specs.Prelude.{◌<◌, ◌≤◌, ◌+◌, ℕ, Bool, List, Option, length, IfSome, slice_index_or}
use Rattle.spec_state.specs.declared.task.TaskId.{TaskId}
use Rattle.spec_state.specs.declared.reserving.TheConstants.{MAX_MOVED}
use Rattle.spec_state.specs.View.{View, task_at}
use Rattle.spec_state.specs.Effects.{EffectValue}

-- how many accesses, children and bytes of output have memory in the buffers that a full list moves into, and how
-- many pushes are spare in each tile's block
pub record Spare : Type 0 where
  pub log : ℕ
  pub spawns : ℕ
  pub output : ℕ
  pub blocks : List ℕ

-- which ids are marked, and a list with ids at its front: the tasks that an abort is about, while it runs
pub record Scratch : Type 0 where
  pub marks : List Bool
  pub members : List ℕ

-- the view, what is spare, the notes of a cascade, and what the last event did beside its change
pub record StateValue : Type 0 where
  pub view : View
  pub spare : Spare
  pub scratch : Scratch
  pub effect : EffectValue

-- an access more of the task is spare
abbrev pub CoversLog : StateValue → ℕ → Type 0
CoversLog state id = IfSome (task_at state.view id) (λ task. length task.log < state.spare.log)

-- a child more of the task is spare
abbrev pub CoversChild : StateValue → ℕ → Type 0
CoversChild state id = IfSome (task_at state.view id) (λ task. length task.spawns < state.spare.spawns)

-- memory for the bytes of the task is spare in the output
abbrev pub CoversOutput : StateValue → ℕ → Type 0
CoversOutput state id = IfSome (task_at state.view id)
    (λ task. length state.view.output + length task.bytes ≤ state.spare.output)

-- so many pushes are spare in the tile's block
abbrev pub CoversPushes : StateValue → ℕ → ℕ → Type 0
CoversPushes state tile more = more ≤ slice_index_or state.spare.blocks tile 0

-- what an event other than a commit adds is spare: an access and a child of the task that is given, and so many tasks
-- in the block of the tile as move at once
pub record Covers (state : StateValue) (task : Option TaskId) (tile : ℕ) : Type 0 where
  pub log : IfSome task (λ id. CoversLog state id.0)
  pub child : IfSome task (λ id. CoversChild state id.0)
  pub pushes : CoversPushes state tile MAX_MOVED

-- nothing spare is less than it was
pub record HasNoLessSpare (old new : Spare) : Type 0 where
  pub log : old.log ≤ new.log
  pub spawns : old.spawns ≤ new.spawns
  pub output : old.output ≤ new.output
  pub blocks : (tile : ℕ) → slice_index_or old.blocks tile 0 ≤ slice_index_or new.blocks tile 0
