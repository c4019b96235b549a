-- The image from which a stopped run continues.
use Rattle.std.specs.Prelude.{◌≡◌, ◌≤◌, ◌<◌, ◌-◌, ◌^◌, ℕ, List, length, map, min}
use Rattle.guest_image.specs.declared.limits.TheConstants.{MAX_TASKS}
use Rattle.guest_image.specs.ImageValue.{ImageValue}
use Rattle.guest_image.specs.declared.image.ImageTask.{ImageTask}
use Rattle.conflict_book.specs.declared.freezing.Frozen.{Frozen}
use Rattle.conflict_book.specs.spec_state.declared.pending.Pending.{Pending}
use Rattle.resume_image.specs.declared.fault.SaveFault.{SaveFault}
use Rattle.resume_image.specs.declared.fault.SaveFault.TheVariants as faults
use Rattle.resume_image.specs.Pendings.{AreOfRoot, IsGreatestDepth}

-- a pending task of the root domain, as a task of an image; its timestamp is already what the domain takes it for
abbrev pub saved_task : Pending → ImageTask
saved_task p = record { entry = p.entry; ts = p.ts; args = p.args }

-- the image with this memory for its data, and with the pending tasks for its tasks
abbrev pub saved_image : ImageValue → List ℕ → List Pending → ImageValue
saved_image image memory pendings = record image { initial = memory; tasks = map saved_task pendings }

-- the image from which a stopped run continues: tasks are pending, all of them in the root domain
pub record IsSavedOf (image : ImageValue) (frozen : Frozen) (saved : ImageValue) : Type 0 where
  pub some : 0 < length frozen.pending
  pub root : AreOfRoot frozen.pending
  pub saved_is : saved ≡ saved_image image frozen.closed.memory frozen.pending

-- why these pending tasks can't be saved; the first two exclude each other, and memory runs out only if neither holds
abbrev pub CannotSave : List Pending → SaveFault → Type 0
CannotSave pendings (faults.Nested depth) = IsGreatestDepth pendings depth × (1 < depth)
CannotSave pendings (faults.TooMany count) =
    AreOfRoot pendings × (MAX_TASKS < length pendings) × (count ≡ min (length pendings) (2 ^ 32 - 1))
CannotSave pendings faults.Memory = AreOfRoot pendings × (length pendings ≤ MAX_TASKS)
