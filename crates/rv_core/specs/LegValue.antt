-- A leg as contracts see it.
use Rattle.std.specs.Prelude.{ℕ, ◌+◌, List, ◌≡◌, ◌≢◌, ◌≤◌}
use Rattle.guest_image.specs.ImageValue.{ImageValue}
use Rattle.rv_core.specs.declared.state.Core.{Core}
use Rattle.rv_core.specs.declared.state.Stop.{Stop}
use Rattle.rv_core.specs.declared.state.Stop.TheVariants as stop
use Rattle.rv_core.specs.Next.{Stops}
use Rattle.rv_core.specs.Legs.{next_at, PlainInstructions, StopIsInData}

-- the core at which it begins and the one at which it ends, how many instructions lie between, and what it stopped at
pub record LegValue : Type 0 where
  pub from : Core
  pub to : Core
  pub steps : ℕ
  pub stop : Stop

-- the leg is a run of plain instructions of this image with this budget; it stopped at what stands next, or at its
-- quantum
pub record IsLegOfImage (image : ImageValue) (budget : ℕ) (leg : LegValue) : Type 0 where
  pub run : PlainInstructions image image.data_size budget leg.steps leg.from leg.to
  pub next : leg.stop ≢ stop.Quantum → next_at image image.data_size budget leg.to ≡ Stops leg.stop
  pub inside : StopIsInData image.data_size leg.stop
  pub counted : leg.to.used ≡ leg.from.used + leg.steps
  pub within : leg.to.used ≤ budget
