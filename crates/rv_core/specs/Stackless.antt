-- Tasks of version 1 have no stack.
use Rattle.std.specs.Prelude.{ℕ, ◌≡◌, List}
use Rattle.guest_image.specs.ImageValue.{ImageValue}
use Rattle.rv_core.specs.declared.state.Core.{Core}
use Rattle.rv_core.specs.Next.{Next, Goes, Stops}
use Rattle.rv_core.specs.Legs.{next_at}
use Rattle.rv_core.specs.LegValue.{LegValue, IsLegOfImage}

-- a core with other bytes as its stack
abbrev pub with_stack : List ℕ → Core → Core
with_stack stack core = record core { stack = stack }

-- what stands next, where the core that it leads to has these bytes as its stack
abbrev pub next_with_stack : List ℕ → Next → Next
next_with_stack stack (Goes core) = Goes (with_stack stack core)
next_with_stack stack (Stops found) = Stops found

-- no address of a task of version 1 reaches a stack: whatever bytes a stack has, the next result is the same, and they
-- stay
abbrev pub NoAddressReachesAStack : Type 0
NoAddressReachesAStack = (image : ImageValue) (size budget : ℕ) (core : Core) (stack : List ℕ) → image.version ≡ 1
    → next_at image size budget (with_stack stack core) ≡ next_with_stack stack (next_at image size budget core)

-- in an image of version 1 a leg leaves the stack as it was
abbrev pub LegsKeepTheStack : Type 0
LegsKeepTheStack = (image : ImageValue) (budget : ℕ) (leg : LegValue) → IsLegOfImage image budget leg
    → image.version ≡ 1
    → leg.to.stack ≡ leg.from.stack
