-- Words on one task. Where it starts, what its calls depend on and what it has before its dispatch may differ by the
-- version of the image.
use Rattle.std.specs.Prelude.{◌==◌, ℕ, zero, suc, ◌+◌, ◌*◌, ◌-◌, ◌/◌, ◌%◌, ◌^◌, ◌∷◌, ◌++◌, Bool, true, false, List}
use Rattle.std.specs.Prelude.{[], length, take, Option, Some, None, is_some, unwrap_or}
use Rattle.fractal_vt.specs.declared.level.Level.{Level}
use Rattle.guest_image.specs.declared.image.Kind.{Kind}
use Rattle.guest_image.specs.declared.image.Kind.TheVariants.{Unordered, Ordered}
use Rattle.rv_core.specs.declared.state.Core.{Core}
use Rattle.rv_core.specs.Legs.{start_of}
use Rattle.task_request.specs.TaskState.{TaskState}
use Rattle.spill_store.specs.SpilledTasks.{Spilled}
use Rattle.task_desc.specs.declared.desc.Ctx.{Ctx}
use Rattle.task_desc.specs.declared.desc.Desc.{Desc}
use Rattle.task_desc.specs.declared.desc.Name.{Name}
use Rattle.task_desc.specs.declared.desc.Place.{Place}
use Rattle.task_desc.specs.declared.desc.Place.TheVariants.{Same, Sub, Super}
use Rattle.task_desc.specs.declared.desc.Spawn.{Spawn}
use Rattle.spec_state.specs.declared.task.Creator.{Creator}
use Rattle.spec_state.specs.declared.task.Status.{Status}
use Rattle.spec_state.specs.declared.task.Status.TheVariants.{Idle, Running, Trapped, Finished}
use Rattle.spec_state.specs.declared.task.Task.{Task}
use Rattle.spec_state.specs.Filters.{unmarked}

-- the depth of the task's domain
abbrev pub depth_of : Task → ℕ
depth_of task = length task.key.domain + 1

-- it has a dispatch number: it runs, is trapped or is finished
abbrev pub is_dispatched : Task → Bool
is_dispatched task = is_some task.key.tb

-- of the domains that a task is in, from the outermost on, whether the one behind so many others is ordered: a bit of
-- the kinds
abbrev pub is_ordered_at : ℕ → ℕ → Bool
is_ordered_at zero kinds = kinds % 2 == 1
is_ordered_at (suc outer) kinds = is_ordered_at outer (kinds / 2)

-- whether each of so many domains that a task is in is ordered, from the outermost on
abbrev pub ordered_to : ℕ → ℕ → List Bool
ordered_to zero kinds = []
ordered_to (suc n) kinds = is_ordered_at 0 kinds ∷ ordered_to n (kinds / 2)

-- the kind of a domain that is ordered or not
abbrev pub kind_if : Bool → Kind
kind_if true = Ordered
kind_if false = Unordered

-- the kind of the domain behind so many others
abbrev pub kind_at : ℕ → ℕ → Kind
kind_at outer kinds = kind_if (is_ordered_at outer kinds)

-- the kind of the domain outside it, where there is one
abbrev pub outer_kind : ℕ → ℕ → Option Kind
outer_kind zero kinds = None
outer_kind (suc outer) kinds = Some (kind_at outer kinds)

-- the floor of a domain: the timestamp of its last level, which is that of the task that made it, or the given floor
-- where it has none
abbrev pub floor_in : ℕ → List Level → ℕ
floor_in floor [] = floor
floor_in floor (level ∷ levels) = floor_in level.ts levels

-- what the calls of the task depend on as it starts
abbrev pub start_context : ℕ → Task → Ctx
start_context version task = record {
  version = version;
  depth = depth_of task;
  own = kind_at (length task.key.domain) task.kinds;
  outer = outer_kind (length task.key.domain) task.kinds;
  ts = task.key.ts;
  floor = floor_in 0 task.key.domain;
  sub = None;
  children = 0;
  bytes = 0;
}

-- what its next call depends on
abbrev pub context_of : ℕ → Task → Ctx
context_of version task =
    record (start_context version task) { sub = task.sub; children = length task.spawns; bytes = length task.bytes }

-- the core that a dispatched task keeps: none while it is idle
abbrev pub kept_core : Status → Core → Option Core
kept_core Idle core = None
kept_core (Running tile_core) core = Some core
kept_core (Trapped tile_core cause) core = Some core
kept_core Finished core = Some core

-- the cause of the trap at which it stands
abbrev pub trap_cause : Status → Option ℕ
trap_cause Idle = None
trap_cause (Running tile_core) = None
trap_cause (Trapped tile_core cause) = Some cause
trap_cause Finished = None

-- the core at which it starts
abbrev pub start_core : ℕ → Task → Core
start_core version task = start_of version task.entry task.key.ts task.args

-- the task in progress at this core, on a memory
abbrev pub progress_at : List ℕ → Core → Task → TaskState
progress_at memory core task = record {
  core = core;
  memory = memory;
  spawns = task.spawns;
  bytes = task.bytes;
  sub = task.sub;
}

-- what is fixed of a task when it is made, but for its creator and its tile: its entry address, arguments, hint and
-- timestamp, the levels of its domain, and the kinds of the domains that it is in
pub record Descriptor : Type 0 where
  pub entry : ℕ
  pub args : List ℕ
  pub hint : ℕ
  pub ts : ℕ
  pub domain : List Level
  pub kinds : ℕ

-- the descriptor of a task
abbrev pub descriptor_of : Task → Descriptor
descriptor_of task = record {
  entry = task.entry;
  args = task.args;
  hint = task.hint;
  ts = task.key.ts;
  domain = task.key.domain;
  kinds = task.kinds;
}

-- the descriptor of a task of the root domain
abbrev pub root_descriptor : Desc → Descriptor
root_descriptor desc = record {
  entry = desc.entry;
  args = desc.args;
  hint = desc.hint;
  ts = desc.ts;
  domain = [];
  kinds = desc.kinds;
}

-- the descriptor that a spilled task has
abbrev pub spilled_descriptor : Spilled → Descriptor
spilled_descriptor s = record {
  entry = s.desc.entry;
  args = s.desc.args;
  hint = s.desc.hint;
  ts = s.desc.ts;
  domain = s.domain;
  kinds = s.desc.kinds;
}

-- a spilled task of this name and descriptor
abbrev pub spilled_as : Name → Descriptor → Spilled
spilled_as name d = record {
  desc = record {
    name = name;
    entry = d.entry;
    ts = d.ts;
    args = d.args;
    hint = d.hint;
    depth = length d.domain + 1;
    kinds = d.kinds;
  };
  domain = d.domain;
}

-- an idle task of this descriptor and creator, in a tile
abbrev pub idle_task : ℕ → Descriptor → Creator → ℕ → Task
idle_task version d creator tile = record {
  entry = d.entry;
  args = d.args;
  hint = d.hint;
  kinds = d.kinds;
  key = record { domain = d.domain; ts = d.ts; tb = None };
  creator = creator;
  tile = tile;
  status = Idle;
  core = start_of version d.entry d.ts d.args;
  log = [];
  lines = unmarked;
  spawns = [];
  bytes = [];
  sub = None;
}

-- the task as it is before its dispatch: idle, with an open tiebreaker, and nothing done
abbrev pub idle_again : ℕ → Task → Task
idle_again version task = idle_task version (descriptor_of task) task.creator task.tile

-- the last level of a dispatched task's key
abbrev pub own_level : Task → Level
own_level task = record { ts = task.key.ts; tb = unwrap_or task.key.tb 0 }

-- the levels of the domain of a dispatched task's child: the task's own domain, its whole key, or its domain
-- without the last level (Subramanian et al. 2017, section 3)
abbrev pub child_domain : Task → Place → List Level
child_domain task Same = task.key.domain
child_domain task Sub = task.key.domain ++ own_level task ∷ []
child_domain task Super = take (length task.key.domain - 1) task.key.domain

-- the bit of a subdomain's kind
abbrev pub sub_bit : Option Kind → ℕ
sub_bit (Some Ordered) = 1
sub_bit (Some Unordered) = 0
sub_bit None = 0

-- the kinds of a child: those of its creator, followed by that of the subdomain, or without the last one
abbrev pub child_kinds : Task → Place → ℕ
child_kinds task Same = task.kinds
child_kinds task Sub = task.kinds + sub_bit task.sub * 2 ^ depth_of task
child_kinds task Super = task.kinds % 2 ^ length task.key.domain

-- the descriptor of a dispatched task's child
abbrev pub child_descriptor : Task → Spawn → Descriptor
child_descriptor task spawn = record {
  entry = spawn.entry;
  args = spawn.args;
  hint = spawn.hint;
  ts = spawn.ts;
  domain = child_domain task spawn.place;
  kinds = child_kinds task spawn.place;
}
