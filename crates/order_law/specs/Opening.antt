-- The tasks before the first event.
use Rattle.std.specs.Prelude.{◌≡◌, [], None}
use Rattle.order_law.specs.Tasks.{Keyed, IsTimely}

-- an idle task of the root domain that no task made
pub record IsRoot (task : Keyed) : Type 0 where
  pub domain : task.domain ≡ []
  pub kinds : task.kinds ≡ []
  pub timely : IsTimely task.ordered task.last
  pub idle : task.last.tb ≡ None
  pub committed : task.creator ≡ None
