-- How a sound view stands, the serial machine stands too.
use Rattle.std.proofs.Common.{◌≢◌, ◌<◌, length, Option, Some, None, arith}
use Rattle.std.specs.Prelude.{IfSome, IsSomeAnd}
use Rattle.guest_image.specs.ImageValue.{ImageValue, IsImage}
use Rattle.run_journal.specs.declared.end.End.{End}
use Rattle.run_journal.specs.declared.end.End.TheVariants as ends
use Rattle.outcome_law.specs.serial_machine.Run.{IsEnd}
use Rattle.outcome_law.specs.spec_state.View.{View}
use Rattle.outcome_law.specs.spec_state.Least.{IsAllCommitted}
use Rattle.outcome_law.specs.spec_law.Sound.{Sound}
use Rattle.outcome_law.specs.event_def.End.{HasEnd, IsOver}
use Rattle.outcome_law.proofs.Below.event_law.Proved.{all_committed, end_is_serial}
use Rattle.machine_run.specs.Played.{StandsAt}

-- where the run isn't over some task is pending, and fewer took turns than may
open_is_serial : (image : ImageValue) (view : View) (sound : Sound image view) → (IsOver view → ⊥)
    → IsEnd image view.settings.budget view.settings.commits view.history sound.serial ends.Unfinished
open_is_serial image view sound open_yet =
    let some : IsAllCommitted view → ⊥ = λ all. open_yet (ends.Normal, all) in
    let other : length view.history ≢ view.settings.commits = λ full. open_yet (ends.Limit, (some, full)) in
    let few = sound.tasks.few in
    let below : length view.history < view.settings.commits = omega arith in
    ((λ empty. some (all_committed image view sound empty)), below)

-- so how a view stands, the serial machine does
pub stands_serially : (image : ImageValue) (view : View) (end : End) → IsImage image → (sound : Sound image view)
    → StandsAt view end
    → IsEnd image view.settings.budget view.settings.commits view.history sound.serial end
stands_serially image view ends.Normal within sound stands = end_is_serial image view ends.Normal within sound stands
stands_serially image view ends.Limit within sound stands = end_is_serial image view ends.Limit within sound stands
stands_serially image view (ends.Trap name cause pc) within sound stands =
    end_is_serial image view (ends.Trap name cause pc) within sound stands
stands_serially image view ends.Unfinished within sound stands = open_is_serial image view sound stands

-- a run that is over stands at its end
pub over_stands : (view : View) (end : End) → HasEnd view end → StandsAt view end
over_stands view ends.Normal has = has
over_stands view ends.Limit has = has
over_stands view (ends.Trap name cause pc) has = has
over_stands view ends.Unfinished has = absurd has

-- wherever an end is told
pub over_stands_if : (view : View) (end : Option End) → IfSome end (HasEnd view) → IfSome end (StandsAt view)
over_stands_if view None has = tt
over_stands_if view (Some end) has = over_stands view end has

-- and none that is told is Unfinished
pub over_is_closed : (view : View) (end : Option End) → IfSome end (HasEnd view) → end ≢ Some ends.Unfinished
over_is_closed view None has unfinished = cc
over_is_closed view (Some ends.Normal) has unfinished = cc
over_is_closed view (Some ends.Limit) has unfinished = cc
over_is_closed view (Some (ends.Trap name cause pc)) has unfinished = cc
over_is_closed view (Some ends.Unfinished) has unfinished = has

-- where an end is told and the view stands at it, the view stands at whatever end is told
pub if_told : (view : View) (told : Option End) → IsSomeAnd told (StandsAt view) → IfSome told (StandsAt view)
if_told view None stands = tt
if_told view (Some end) stands = stands
