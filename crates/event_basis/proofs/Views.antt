-- What a sound view says of its tasks.
use Rattle.std.proofs.Common.{ℕ, ◌≡◌, ◌≢◌, List, refl}
use Rattle.std.specs.Prelude.{Contains, length}
use Rattle.guest_image.specs.ImageValue.{ImageValue}
use Rattle.memory_law.specs.Tasks.{IsByKey}
use Rattle.run_journal.specs.declared.end.End.TheVariants as ends
use Rattle.spill_store.specs.SpilledTasks.{Spilled}
use Rattle.event_law.specs.spec_state.declared.task.Creator.{Creator}
use Rattle.event_law.specs.spec_state.declared.task.Creator.TheVariants.{Committed}
use Rattle.event_law.specs.spec_state.declared.task.Status.TheVariants.{Trapped}
use Rattle.event_law.specs.spec_state.declared.task.Task.{Task}
use Rattle.event_law.specs.spec_state.View.{View, block_at}
use Rattle.event_law.specs.spec_state.Groups.{all_spilled, logged_tasks}
use Rattle.event_law.specs.spec_state.Least.{HasName, IsLeastTask}
use Rattle.event_law.specs.spec_state.Numbers.{IsInUse, IsPathsOrTasks}
use Rattle.event_law.specs.event_def.End.{HasEnd}
use Rattle.event_law.specs.spec_law.Sound.{Sound}
use Rattle.event_law.proofs.Below.spec_law.Proved.{contains_get, get_contains, least_is_next, numbers_are_held}
use Rattle.event_law.proofs.Below.spec_law.Proved.{place_in_all}
use Rattle.event_law.proofs.Below.spec_law.Proved.{spilled_are_firm}

-- its dispatched tasks, in order of their keys
pub sound_by_key : (image : ImageValue) (view : View) → Sound image view
    → (ids : List ℕ) × IsByKey (logged_tasks view) ids
sound_by_key image view sound = (sound.memory.chained.ids, sound.memory.chained.by_key)

-- a number in use is the path's or a task's own
pub sound_numbers : (image : ImageValue) (view : View) → Sound image view → (number : ℕ) → IsInUse view number
    → IsPathsOrTasks view number
sound_numbers image view sound number used = numbers_are_held image view sound number used

-- what a tile's block holds is among the spilled tasks of all tiles
pub of_block : (view : View) (tile : ℕ) (s : Spilled) → Contains (block_at view tile) s → Contains (all_spilled view) s
of_block view tile s has =
    let at = contains_get (block_at view tile) s has in
    let among = place_in_all view.blocks tile at.0 s at.1 in
    get_contains (all_spilled view) among.0 s among.1

-- a spilled task has a name
pub sound_named : (image : ImageValue) (view : View) (tile : ℕ) → Sound image view → (s : Spilled)
    → Contains (block_at view tile) s
    → (creator : Creator) × HasName view creator s.desc.name
sound_named image view tile sound s has = spilled_are_firm image view sound s (of_block view tile s has)

-- the least task's creator is committed
pub least_is_committed : (image : ImageValue) (view : View) (id : ℕ) (task : Task) → Sound image view
    → IsLeastTask view id task
    → (turn index : ℕ) × (task.creator ≡ Committed turn index)
least_is_committed image view id task sound least =
    let may = least_is_next image view sound id task least in
    (may.turn, may.index, may.creator)

-- where the least task is trapped before the limit, the run ended so, under the name that its creator gives
pub trap_ends : (view : View) (id core cause turn index : ℕ) (task : Task)
    → length view.history ≢ view.settings.commits → IsLeastTask view id task
    → task.status ≡ Trapped core cause → task.creator ≡ Committed turn index
    → HasEnd view (ends.Trap (record { creator = turn; index = index }) cause task.core.pc)
trap_ends view id core cause turn index task few least trapped made_by =
    (few, record { id = id; task = task; core = core; least = least; trapped = trapped; named = made_by; pc_is = refl })
