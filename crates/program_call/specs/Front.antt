-- The front end of a program: what its arguments may request, and the lines that report a call without an image.
use Rattle.std.specs.Prelude.{ℕ, List}
use Rattle.std.specs.declared.option.Option.{Option}
use Rattle.guest_image.specs.declared.fault.ImageFault.{ImageFault}

-- what arguments may request, and how that is read; which requests read the source, and are within the ranges; how many
-- tasks a requested run commits at most, and how many instructions each may take; and the lines that report that
-- arguments are invalid, that an input is too long, and that it doesn't begin with an image
pub record Front : Type 1 where
  pub Asked : Type 0
  pub asked_in : List (List ℕ) → Option Asked
  pub Reads : Asked → Type 0
  pub IsWithin : Asked → Type 0
  pub commits : Asked → ℕ
  pub budget : Asked → ℕ
  pub usage_line : List ℕ
  pub long_line : List ℕ
  pub image_line : ImageFault → List ℕ
