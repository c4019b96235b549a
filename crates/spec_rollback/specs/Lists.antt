-- How many lists a state has.
use Rattle.std.specs.Prelude.{◌≡◌, All, length}
use Rattle.spec_state.specs.View.{View}

-- each tile has its lists, and its cores
pub record HasLists (view : View) : Type 0 where
  pub queues : length view.queues ≡ view.settings.tiles
  pub finished : length view.finished ≡ view.settings.tiles
  pub cores : length view.cores ≡ view.settings.tiles
  pub each : All (λ cores. length cores ≡ view.settings.cores) view.cores
  pub blocks : length view.blocks ≡ view.settings.tiles
