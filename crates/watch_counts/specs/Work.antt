-- What one task has done, and what one step is.
use Rattle.std.specs.Prelude.{◌+◌, ◌-◌, ℕ, length, Some, None, count_by, nat_le, option_map, sum_by, unwrap_or}
use Rattle.std.specs.declared.option.Option.{Option}
use Rattle.std.specs.List.{range_with_len}
use Rattle.task_request.specs.declared.request.Request.{Request}
use Rattle.task_request.specs.declared.request.Request.TheVariants as requests
use Rattle.watch_text.specs.spec_state.declared.task.Task.{Task}
use Rattle.watch_text.specs.spec_state.Tasks.{kind_at}
use Rattle.watch_text.specs.spec_state.Told.{is_store}
use Rattle.watch_text.specs.spec_state.View.{View, queue_at, task_at}
use Rattle.watch_text.specs.event_def.declared.event.Event.TheVariants as event
use Rattle.watch_text.specs.step_script.Asking.{Attempt, Hands}
use Rattle.watch_text.specs.Changes.{task_if}
use Rattle.watch_counts.specs.declared.done.Done.{Done}
use Rattle.watch_counts.specs.declared.done.TheConstants.{POWERS}

-- the instructions of a step that is made, whose task asks for this at the end of its leg: those of the leg and one
-- more, the load, the store or the call; none more where it goes on or traps
abbrev pub instructions : ℕ → Option Request → ℕ
instructions leg None = 0
instructions leg (Some requests.Continue) = leg
instructions leg (Some (requests.Trap cause)) = leg
instructions leg (Some other) = leg + 1

-- those of a step that is refused: its leg, where its task takes it
abbrev pub refused_leg : ℕ → Option Request → ℕ
refused_leg leg None = 0
refused_leg leg (Some request) = leg

-- of a task: its tile, what it has done since its dispatch, how many domains are around its own, the kind of that, and
-- of its subdomain
abbrev pub done_of : Task → Done
done_of task = record {
  tile = task.tile;
  used = task.core.used;
  loads = length task.log - count_by is_store task.log;
  stores = count_by is_store task.log;
  bytes = length task.bytes;
  outer = length task.key.domain;
  kind = kind_at (length task.key.domain) task.kinds;
  sub = task.sub;
}

-- that of the task that a commit is about, as it stands before
abbrev pub done_by : {N : Type 0} → View → Attempt N → Option ℕ → Option Done
done_by view (Hands event.Commit) task = option_map done_of (task_if view task)
done_by view other task = None

-- the place of a task of so many instructions among such tasks: how many of 2, 4, 8 .. 65,536 are at most as many
abbrev pub length_place : ℕ → ℕ
length_place used = count_by (λ power. nat_le power used) POWERS

-- the sum over all tiles
abbrev pub over_tiles : View → (ℕ → ℕ) → ℕ
over_tiles view count = sum_by count (range_with_len 0 view.settings.tiles)

-- the instructions that the task of an id has executed since its dispatch
abbrev pub used_by : View → ℕ → ℕ
used_by view id = unwrap_or (option_map (λ (task : Task). task.core.used) (task_at view id)) 0

-- those of all uncommitted tasks
abbrev pub work_left : View → ℕ
work_left view = over_tiles view (λ tile. sum_by (used_by view) (queue_at view tile))
