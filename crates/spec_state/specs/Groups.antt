-- What the laws read of a view: those of the order of tasks, of memory, of the serial bags, and of room in a queue.
use Rattle.std.specs.Prelude.{ℕ, ◌/◌, ◌∷◌, Bool, true, false, List, [], length, map, flat_map, nat_le, Option, Some}
use Rattle.std.specs.Prelude.{None, option_map}
use Rattle.fractal_vt.specs.declared.level.Level.{Level}
use Rattle.fractal_vt.specs.Keys.{last, levels}
use Rattle.fractal_vt.specs.Levels.{closed_level}
use Rattle.memory_law.specs.Tasks.{Logged}
use Rattle.order_law.specs.Tasks.{Keyed}
use Rattle.order_law.specs.Events.{beside}
use Rattle.spill_store.specs.SpilledTasks.{Spilled, open_key}
use Rattle.task_law.specs.Domains.{Domain}
use Rattle.task_law.specs.Room.{RoomTask}
use Rattle.task_law.specs.Tasks as bags
use Rattle.spec_state.specs.declared.task.Creator.{Creator}
use Rattle.spec_state.specs.declared.task.Creator.TheVariants.{Committed, Live}
use Rattle.spec_state.specs.declared.task.Task.{Task}
use Rattle.spec_state.specs.View.{View, task_at}
use Rattle.spec_state.specs.Filters.{has_touched, has_written}
use Rattle.spec_state.specs.Tasks.{depth_of, is_dispatched, is_ordered_at, ordered_to, kind_at}

-- the creator, where it is uncommitted
abbrev pub live_creator : Creator → Option ℕ
live_creator (Committed turn index) = None
live_creator (Live task index) = Some task.0

-- what the order of tasks reads of one
abbrev pub keyed_task : Task → Keyed
keyed_task task = record {
  domain = map closed_level task.key.domain;
  last = last task.key;
  kinds = ordered_to (length task.key.domain) task.kinds;
  ordered = is_ordered_at (length task.key.domain) task.kinds;
  creator = live_creator task.creator;
}

-- what it reads of the queued tasks, by id
abbrev pub keyed_tasks : View → ℕ → Option Keyed
keyed_tasks view id = option_map keyed_task (task_at view id)

-- the spilled tasks of all tiles
abbrev pub all_spilled : View → List Spilled
all_spilled view = flat_map (λ block. block) view.blocks

-- the creator of a spilled task: None where it has committed; else it is the dispatched least task, which commits next
abbrev pub heir_unless : Bool → Option ℕ → Option ℕ
heir_unless true heir = None
heir_unless false heir = heir

-- what the order of tasks reads of a spilled one
abbrev pub keyed_spilled : ℕ → Option ℕ → Spilled → Keyed
keyed_spilled count heir s = record {
  domain = map closed_level s.domain;
  last = last (open_key s);
  kinds = ordered_to (length s.domain) s.desc.kinds;
  ordered = is_ordered_at (length s.domain) s.desc.kinds;
  creator = heir_unless (nat_le s.desc.name.creator count) heir;
}

-- all uncommitted tasks, the spilled ones under ids behind those of the queued ones
abbrev pub all_keyed : View → Option ℕ → ℕ → Option Keyed
all_keyed view heir =
    beside (length view.tasks) (keyed_tasks view) (map (keyed_spilled (length view.history) heir) (all_spilled view))

-- what memory reads of a task
abbrev pub logged_task : Task → Logged
logged_task task = record {
  levels = levels task.key;
  dispatched = is_dispatched task;
  log = task.log;
  touched = has_touched task;
  wrote = has_written task;
}

-- what it reads of the queued tasks, by id
abbrev pub logged_tasks : View → ℕ → Option Logged
logged_tasks view id = option_map logged_task (task_at view id)

-- who made a task, for the bags
abbrev pub bag_creator : Creator → bags.BagCreator
bag_creator (Committed turn index) = bags.Committed turn index
bag_creator (Live task index) = bags.Live task.0 index

-- what the bags of pending tasks read of a task
abbrev pub bag_task : Task → bags.BagTask
bag_task task = record {
  depth = depth_of task;
  body = record { entry = task.entry; args = task.args };
  ts = task.key.ts;
  creator = bag_creator task.creator;
  dispatched = is_dispatched task;
  spawns = task.spawns;
}

-- what they read of the queued tasks, by id
abbrev pub bag_tasks : View → ℕ → Option bags.BagTask
bag_tasks view id = option_map bag_task (task_at view id)

-- what they read of a spilled one
abbrev pub bag_spilled : Spilled → bags.SpilledBagTask
bag_spilled s = record {
  depth = s.desc.depth;
  task = record { name = s.desc.name; entry = s.desc.entry; ts = s.desc.ts; args = s.desc.args };
}

-- what they read of the spilled tasks of all tiles
abbrev pub bags_spilled : View → List bags.SpilledBagTask
bags_spilled view = map bag_spilled (all_spilled view)

-- what room in a queue reads of a task
abbrev pub room_task : Task → RoomTask
room_task task = record {
  levels = levels task.key;
  dispatched = is_dispatched task;
  creator = live_creator task.creator;
}

-- what it reads of the queued tasks, by id
abbrev pub room_tasks : View → ℕ → Option RoomTask
room_tasks view id = option_map room_task (task_at view id)

-- the domains along these levels, with the outer ones, the innermost first: each with its kind and floor
abbrev pub domains_behind : List Domain → ℕ → ℕ → List Level → List Domain
domains_behind outer floor kinds [] = record { kind = kind_at 0 kinds; floor = floor } ∷ outer
domains_behind outer floor kinds (level ∷ levels) =
    domains_behind (record { kind = kind_at 0 kinds; floor = floor } ∷ outer) level.ts (kinds / 2) levels

-- a task's own domain and those outside it
abbrev pub domains_of : ℕ → List Level → List Domain
domains_of kinds domain = domains_behind [] 0 kinds domain
