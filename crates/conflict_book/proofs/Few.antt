-- Few tasks are committed.
use Rattle.std.proofs.Common.{arith, length, ◌<◌, ◌≤◌, ◌^◌}
use Rattle.guest_image.specs.ImageValue.{ImageValue}
use Rattle.event_step.specs.serial_machine.declared.limits.TheConstants.{MAX_COMMITS}
use Rattle.event_step.specs.spec_state.View.{View}
use Rattle.event_step.specs.spec_law.Sound.{Sound}

-- their number has 32 bits
pub few_commits : (image : ImageValue) (view : View) → Sound image view → length view.history < 2 ^ 32
few_commits image view sound =
    let few : length view.history ≤ view.settings.commits = sound.tasks.few in
    let most : view.settings.commits ≤ MAX_COMMITS = sound.sizes.settings.commits.1 in
    omega (arith, few, most)
