-- A task in progress.
use Rattle.std.specs.Prelude.{ℕ, List, [], None, length, Option}
use Rattle.guest_image.specs.declared.image.Kind.{Kind}
use Rattle.rv_core.specs.declared.state.Core.{Core}
use Rattle.rv_core.specs.Legs.{start_of}
use Rattle.task_desc.specs.declared.desc.Ctx.{Ctx}
use Rattle.task_desc.specs.declared.desc.Spawn.{Spawn}

-- its core, the data memory, the children and the bytes that it has made so far, and the kind of its subdomain if
-- it made one
pub record TaskState : Type 0 where
  pub core : Core
  pub memory : List ℕ
  pub spawns : List Spawn
  pub bytes : List ℕ
  pub sub : Option Kind

-- a task of an image of this version that has done nothing yet
abbrev pub task_at_start : ℕ → ℕ → ℕ → List ℕ → List ℕ → TaskState
task_at_start version entry ts args memory =
    record { core = start_of version entry ts args; memory = memory; spawns = []; bytes = []; sub = None }

-- what the calls of a task depend on, by what it has made so far
abbrev pub context : Ctx → TaskState → Ctx
context ctx task = record ctx { sub = task.sub; children = length task.spawns; bytes = length task.bytes }
