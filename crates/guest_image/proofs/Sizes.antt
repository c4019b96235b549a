-- The size of an image that was read.
use Rattle.std.proofs.Common.{◌≡◌, ◌≤◌, ◌==◌, ℕ, List, length, arith}
use Rattle.std.proofs.Common.{Result, Ok, Err, Bool, true, false, nat_lt, if◌then◌else◌, refl, ap}
use Rattle.std.proofs.lemmas.Bool.Decides.{nat_tests}
use Rattle.std.proofs.lemmas.Grind.{common_steps}
use Rattle.guest_image.specs.ImageValue.{ImageValue}
use Rattle.guest_image.specs.Reading.{after_header, header_fault, image_of, value_in_bytes, whole_length}
use Rattle.guest_image.specs.declared.fault.ImageFault.{ImageFault}
use Rattle.guest_image.specs.declared.fault.ImageFault.TheVariants as faults

abbrev size_in : Result (ImageValue × ℕ) ImageFault → ℕ
size_in (Ok x) = x.1
size_in (Err fault) = 0

-- an image is no longer than the bytes that it was read from
pub size_within : (bytes : List ℕ) (image : ImageValue) (size : ℕ) → image_of bytes ≡ Ok (image, size)
    → size ≤ length bytes
unfolding image_of
size_within bytes image size is = short (nat_lt (length bytes) 32) is where
  whole : (b : Bool) → nat_lt (length bytes) (whole_length bytes) ≡ b
      → if◌then◌else◌ {A = Result (ImageValue × ℕ) ImageFault} b
      (Err (faults.Short (whole_length bytes) (length bytes))) (Ok (value_in_bytes bytes, whole_length bytes))
      ≡ Ok (image, size) → size ≤ length bytes
  whole true e h = cc
  whole false e h =
      let same : whole_length bytes ≡ size = ap size_in h in grind (arith, nat_tests, common_steps)

  behind : (o : Result (Unit {0}) ImageFault) → after_header bytes o ≡ Ok (image, size) → size ≤ length bytes
  behind (Err f) h = cc
  behind (Ok u) h = whole (nat_lt (length bytes) (whole_length bytes)) refl h

  short : (b : Bool)
      → (if b then Err (faults.Short 32 (length bytes)) else after_header bytes (header_fault bytes)) ≡ Ok (image, size)
      → size ≤ length bytes
  short true h = cc
  short false h = behind (header_fault bytes) h
