-- Which image a load has.
use Rattle.std.specs.Prelude.{ℕ, ◌<◌, ◌≤◌}
use Rattle.guest_image.specs.ImageValue.{ImageValue}
use Rattle.load_gen.specs.declared.making.Load.{Load}
use Rattle.load_gen.specs.declared.making.Load.TheVariants.{Walk, Nest}
use Rattle.load_gen.specs.Walk.{walk_image}
use Rattle.load_gen.specs.Nest.{nest_image}

-- the sizes of a load
abbrev pub IsSize : Load → ℕ → Type 0
IsSize Walk size = (0 < size) × (size ≤ 100000)
IsSize Nest size = (0 < size) × (size ≤ 10000)

-- the image of a load of this seed and size
abbrev pub load_image : Load → ℕ → ℕ → ImageValue
load_image Walk seed size = walk_image seed size
load_image Nest seed size = nest_image seed size
