-- Idle tasks of a tile beside the least task.
use Rattle.std.specs.Prelude.{ℕ}
use Rattle.event_prelude.specs.spec_state.declared.task.Task.{Task}
use Rattle.event_prelude.specs.spec_state.Least.{IsTheLeast}
use Rattle.event_prelude.specs.spec_state.Queries.{IsIdle}
use Rattle.event_prelude.specs.spec_state.View.{View}

-- no idle task of the tile is the least task
abbrev pub NoIdleIsLeast : View → ℕ → Type 0
NoIdleIsLeast view tile = (id : ℕ) (task : Task) → IsIdle view tile id task → IsTheLeast view id → ⊥
