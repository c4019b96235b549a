-- Tasks that move between queues and blocks keep a view sound.
use Rattle.std.proofs.Common.{◌≡◌, length, refl, sym, subst, is_some, unwrap_or}
use Rattle.guest_image.specs.ImageValue.{ImageValue}
use Rattle.spec_state.specs.task_law.Sound.{AreSound, SameFree}
use Rattle.spec_state.specs.View.{View}
use Rattle.spec_state.specs.Groups.{bag_tasks, bags_spilled}
use Rattle.spec_law.specs.Sound.{Sound, SoundSizes, StaysSound}
use Rattle.spec_law.proofs.Moves.Moving.{Moves, moved_to}
use Rattle.spec_law.proofs.Moves.MovingOrder.{moved_order}
use Rattle.spec_law.proofs.Moves.MovingHeir.{moved_heir}
use Rattle.spec_law.proofs.Moves.MovingMemory.{moved_memory}
use Rattle.spec_law.proofs.Moves.MovingTasks.{moved_tasks}
use Rattle.spec_law.proofs.Moves.MovingBags.{matches_still}

-- where sizes are kept, and the bags of pending tasks find the same free tasks and whole families
pub moved_sound : (image : ImageValue) (old new : View) (sound : Sound image old) → Moves old new
    → new ≡ moved_to old new → SoundSizes (moved_to old new)
    → SameFree (length old.history) (bag_tasks old) (bags_spilled old) (bag_tasks new) (bags_spilled new)
    × (AreSound (length old.history) (unwrap_or sound.heir 0) (is_some sound.heir) (bag_tasks old) (bags_spilled old)
    → AreSound (length old.history) (unwrap_or sound.heir 0) (is_some sound.heir) (bag_tasks new) (bags_spilled new))
    → StaysSound image old sound new
moved_sound image old new sound moves rest sizes bags = subst (StaysSound image old sound) (sym rest) (
  record {
    version = sound.version;
    serial = sound.serial;
    is_run = sound.is_run;
    heir = sound.heir;
    is_heir = moved_heir old new sound.heir moves sound.order sound.sizes sizes sound.is_heir;
    tasks = moved_tasks image old new sound.heir sound.serial moves sound.is_heir sound.tasks (bags.1 sound.tasks.names)
        (matches_still (length old.history) (bag_tasks old) (bag_tasks new) (bags_spilled old) (bags_spilled new) sound.serial.stack bags.0 sound.tasks.matches);
    memory = moved_memory image old new sound.heir sound.serial moves sound.tasks sound.memory;
    order = moved_order old new sound.heir moves sound.is_heir sound.order;
    sizes = sizes;
  },
  refl,
)
