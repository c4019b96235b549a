-- Numbers kept in bytes, the least byte first (RISC-V Unprivileged ISA 20191213, section 2.6).
use Rattle.std.specs.Prelude.{◌≡◌, ℕ, zero, suc, ◌+◌, ◌*◌, ◌/◌, ◌%◌, ◌<◌, ◌≤◌, ◌⊎◌, List, slice_index, slice_set}

-- the number in so many bytes from the offset on
abbrev pub number_at : List ℕ → ℕ → ℕ → ℕ
number_at bytes offset zero = 0
number_at bytes offset (suc width) = slice_index bytes offset + 256 * number_at bytes (offset + 1) width

-- the bytes after the low bytes of a number, so many, are written from the offset on
abbrev pub after_write : List ℕ → ℕ → ℕ → ℕ → List ℕ
after_write bytes offset zero value = bytes
after_write bytes offset (suc width) value =
    after_write (slice_set bytes offset (value % 256)) (offset + 1) width (value / 256)

-- each number of the list is a byte
abbrev pub AreBytes : List ℕ → Type 0
AreBytes bytes = (k : ℕ) → slice_index bytes k < 256

-- an access of 1, 2 or 4 bytes, at a multiple of its width, lies within so many bytes
pub record IsAccessible (size offset width : ℕ) : Type 0 where
  pub width_is : (width ≡ 1) ⊎ (width ≡ 2) ⊎ (width ≡ 4)
  pub aligned : offset % width ≡ 0
  pub within : offset + width ≤ size
