-- Who made a task that commits, and what its commit leaves of its children.
use Rattle.std.specs.Prelude.{◌≡◌, ◌⊎◌, ℕ, Option, Some, None}
use Rattle.spec_state.specs.declared.task.Creator.TheVariants.{Committed}
use Rattle.spec_state.specs.declared.task.Task.{Task}
use Rattle.spec_state.specs.Changes.{creator_after}

-- a child of the task of this id has a creator that has committed as the n-th; all others stay
abbrev pub after_adoption : ℕ → ℕ → Option Task → Option Task
after_adoption id n None = None
after_adoption id n (Some task) = Some (record task { creator = creator_after id n task.creator })

-- a task is as it was, or its creator has committed
abbrev pub IsAdoptedOrSame : ℕ → ℕ → Option Task → Option Task → Type 0
IsAdoptedOrSame id n old new = (new ≡ old) ⊎ (new ≡ after_adoption id n old)

-- the image or a task that has committed made the task
abbrev pub HasCommittedCreator : Task → Type 0
HasCommittedCreator task = (turn : ℕ) × (index : ℕ) × (task.creator ≡ Committed turn index)
